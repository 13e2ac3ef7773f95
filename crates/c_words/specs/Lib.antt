pub mod State
pub mod Pair
pub mod Answers
pub mod Laws
pub mod Unique
