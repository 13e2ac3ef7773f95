-- Laws about the definitions, and the lemmas that the proofs of the code rest on.
-- Assumes nothing.
pub mod Arranging
pub mod Choosing
pub mod Seeking
pub mod Walking
pub mod Members
pub mod Frames
pub mod Copying
pub mod Saving
pub mod Placing
pub mod Ending
pub mod Close
