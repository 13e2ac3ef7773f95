pub mod Spread
pub mod Order
pub mod Passes
pub mod Judged
pub mod Laws
