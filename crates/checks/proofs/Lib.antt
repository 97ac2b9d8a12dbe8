pub mod Checking
pub mod Findings
pub mod Results
pub mod CallEnds
pub mod Steps
pub mod Never
