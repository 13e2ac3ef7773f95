-- Laws about the definitions, and the lemmas that the proofs of the code rest on.
-- Assumes nothing.
pub mod Order
pub mod Sum
pub mod Sizes
pub mod Passed
pub mod Turns
pub mod Ends
pub mod Numbered
