pub mod Flip
pub mod Sent
pub mod Outcome
