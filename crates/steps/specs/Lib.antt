pub mod Rows
pub mod Sound
pub mod Table
pub mod Steps
pub mod System
pub mod One
pub mod Room
