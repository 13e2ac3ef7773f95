pub mod Write
pub mod Words
pub mod Steps
pub mod Laws
pub mod Theorems
pub mod Unique
