pub mod Pass
pub mod Tell
pub mod Laws
