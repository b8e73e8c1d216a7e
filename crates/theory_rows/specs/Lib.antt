pub mod Bench
pub mod StepTests
pub mod Steps
