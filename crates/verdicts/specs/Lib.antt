pub mod Systems
pub mod Patterns
pub mod Verdicts
pub mod Calls
pub mod StandsFor
