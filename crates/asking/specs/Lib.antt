pub mod Asked
pub mod Ranges
pub mod Tree
pub mod Laws
