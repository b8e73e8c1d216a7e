pub mod Cases
pub mod Outcomes
pub mod OneToOne
pub mod Printed
