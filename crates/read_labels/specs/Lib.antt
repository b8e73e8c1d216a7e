pub mod ProfileLabels
pub mod Named
pub mod First
pub mod LabelPart
