-- The lines of one step.
pub mod Fits
pub mod Lines
pub mod RowKeys
pub mod Singles
pub mod StepFits
pub mod StepLines
