-- Laws about the definitions, and the lemmas that the proofs of the code rest on.
-- Assumes nothing.
pub mod Fragment
pub mod Numbers
pub mod Turns
pub mod Test
pub mod Head
pub mod Whole
pub mod Only
pub mod Laid
