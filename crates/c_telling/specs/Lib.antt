pub mod Telling
pub mod Answers
pub mod Laws
pub mod Theorems
pub mod Unique
