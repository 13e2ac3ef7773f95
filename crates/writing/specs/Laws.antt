-- The lemmas that the theorems and the proofs of the code rest on.
-- Assumes nothing.
pub mod Steps
pub mod Back
