-- What the readers of whole inputs say, and their laws.
pub mod LabelWalks
pub mod Accepted
pub mod ProfileWalks
pub mod QuestionWalks
