pub mod Call
pub mod Run
pub mod File
pub mod Lists
pub mod Tell
pub mod Laws
pub mod Theorems
pub mod Unique
