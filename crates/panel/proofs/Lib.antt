pub mod States
pub mod Answers
pub mod Counts
pub mod Returns
pub mod Unsettled
pub mod Stepping
