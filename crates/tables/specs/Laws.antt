-- The lemmas that the proofs of the code rest on.
-- Assumes nothing.
pub mod Sections
pub mod Links
