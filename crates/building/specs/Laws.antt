-- Laws about the definitions, and the lemmas that the proofs of the code rest on.
-- Assumes nothing.
pub mod Among
pub mod Noted
pub mod Telling
pub mod Take
