pub mod Gathered
pub mod Joined
pub mod Pieces
pub mod Check
pub mod Laws
