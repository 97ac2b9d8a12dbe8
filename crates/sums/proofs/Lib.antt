pub mod Keeping
pub mod Splits
pub mod Recalling
pub mod Remembering
pub mod Deep
