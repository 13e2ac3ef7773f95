-- The lemmas that the theorems and the proofs of the code rest on.
-- Assumes nothing.
pub mod Numbers
pub mod Link
pub mod Block
pub mod Given
pub mod Scan
pub mod File
pub mod Parts
