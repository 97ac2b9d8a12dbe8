pub mod Rings
pub mod Building
pub mod Inputs
pub mod Least
pub mod Outcomes
pub mod Endings
pub mod StandsFor
pub mod Stepwise
pub mod Theorems
mod Printed
