-- Laws about the definitions, and the lemmas that the proofs of the code rest on.
-- Assumes nothing.
pub mod Passes
pub mod Order
pub mod Judged
pub mod Laid
