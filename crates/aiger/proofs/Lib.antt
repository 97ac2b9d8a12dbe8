-- What crates above cite
pub mod Accepted
pub mod WholeNet
pub mod Valued
pub mod Unique
-- For the crate nets: the laws of its reading
pub mod Bools
pub mod AtPosition
pub mod Marking
pub mod LiteralLines
pub mod GateLines
pub mod KnownOutputs
pub mod Gave
-- The printed run
mod Printed
