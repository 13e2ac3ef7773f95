pub mod Adopt
pub mod Laws
