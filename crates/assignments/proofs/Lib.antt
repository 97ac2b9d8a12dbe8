pub mod Values
pub mod Ones
