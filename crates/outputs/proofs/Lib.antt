pub mod Endings
pub mod Judging
