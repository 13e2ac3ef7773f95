pub mod Parts
pub mod Answers
pub mod Steps
pub mod Laws
pub mod Unique
