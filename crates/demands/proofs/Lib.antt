pub mod Demands
pub mod Laws
