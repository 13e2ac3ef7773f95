pub mod Report
pub mod Threads
pub mod Laws
pub mod Theorems
