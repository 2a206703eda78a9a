pub mod State
pub mod Answer
pub mod Calls
