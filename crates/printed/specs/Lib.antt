pub mod Printed
pub mod Claims
pub mod Run
pub mod Known
