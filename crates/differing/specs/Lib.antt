pub mod Links
pub mod Batches
pub mod Laws
