-- Laws about the definitions, and the lemmas that the proofs of the code rest on.
-- Assumes nothing.
pub mod Steps
pub mod Runs
pub mod File
pub mod Lists
pub mod Tell
