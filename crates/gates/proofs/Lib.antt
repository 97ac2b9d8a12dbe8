pub mod Joining
pub mod Looping
pub mod Outputs
