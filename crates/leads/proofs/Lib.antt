pub mod Skipping
pub mod Walking
pub mod Filling
pub mod Tabling
