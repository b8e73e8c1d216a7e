pub mod BothAccepted
