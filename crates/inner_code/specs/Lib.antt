pub mod Reply
pub mod Refusal
pub mod Code
pub mod Sheet
pub mod House
pub mod Answer
pub mod Reduction
pub mod Checking
