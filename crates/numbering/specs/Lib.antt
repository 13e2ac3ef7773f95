pub mod Numbering
pub mod Order
pub mod Passes
pub mod Laws
