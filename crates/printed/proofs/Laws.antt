-- The laws that the theorems rest on.
-- Assumes nothing.
pub mod Pass
pub mod Part
pub mod Moments
pub mod Courses
pub mod Prints
