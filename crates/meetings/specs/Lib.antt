pub mod Spread
pub mod Answer
pub mod Walk
