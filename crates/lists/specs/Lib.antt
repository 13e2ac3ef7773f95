pub mod List
pub mod Answers
pub mod Words
pub mod Scan
pub mod Laws
pub mod Theorems
pub mod Unique
