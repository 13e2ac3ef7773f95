-- The lemmas that the proofs of the code rest on.
-- Assumes nothing.
pub mod Lines
pub mod Threads
pub mod Length
pub mod Written
