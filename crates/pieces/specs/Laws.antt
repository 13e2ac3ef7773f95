-- Laws about the definitions, and the lemmas that the proofs of the code rest on.
-- Assumes nothing.
pub mod Passed
pub mod Pieces
pub mod Scratch
pub mod Ways
pub mod Gather
pub mod Gathered
pub mod Check
