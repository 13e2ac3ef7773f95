pub mod Tell
pub mod StepNumber
pub mod Steps
pub mod Unique
