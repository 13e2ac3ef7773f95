pub mod Promises
pub mod Calls
pub mod Run
pub mod Step
pub mod Course
pub mod Claims
pub mod Known
