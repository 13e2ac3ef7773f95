-- The lemmas that the proofs of the code rest on.
-- Assumes nothing.
pub mod Asked
pub mod Piece
pub mod Ranges
pub mod Sole
pub mod Tree
