pub mod Outputs
pub mod Verdicts
