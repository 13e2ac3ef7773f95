-- The lemmas that the proofs of the code rest on.
-- Assumes nothing.
pub mod Left
pub mod Pass
pub mod Tell
pub mod Take
