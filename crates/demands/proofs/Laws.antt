-- Laws about the definitions, and the lemmas that the theorems rest on.
-- Assumes nothing.
pub mod Answered
pub mod Steps
pub mod Runs
pub mod Refusals
pub mod Results
pub mod Closes
pub mod Counts
pub mod Answers
pub mod Courses
pub mod Met
