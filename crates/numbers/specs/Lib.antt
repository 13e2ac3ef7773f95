pub mod Number
pub mod Answers
pub mod Writing
pub mod Words
