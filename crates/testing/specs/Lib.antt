pub mod Test
pub mod Whole
pub mod Only
pub mod Laid
pub mod Laws
