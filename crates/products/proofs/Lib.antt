pub mod Parts
pub mod Remembering
pub mod Deep
