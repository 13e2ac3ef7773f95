pub mod Arranged
pub mod Arranging
pub mod Walk
pub mod Closing
pub mod Laws
