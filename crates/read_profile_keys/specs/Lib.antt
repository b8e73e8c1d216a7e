pub mod KeyWalks
