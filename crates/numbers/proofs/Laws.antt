-- The lemmas that the theorems and the proofs of the code rest on.
-- Assumes nothing.
pub mod Groups
pub mod Reading
pub mod Writing
pub mod Most
