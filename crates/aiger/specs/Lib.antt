pub mod Form
pub mod Net
pub mod Meaning
pub mod Accepted
pub mod Answers
pub mod Circuit
pub mod Marked
