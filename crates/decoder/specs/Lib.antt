pub mod Decode
pub mod Answer
pub mod Turns
