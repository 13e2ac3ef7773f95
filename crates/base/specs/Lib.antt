pub mod Pick
pub mod Answer
pub mod Link
pub mod Truth
