pub mod Position
pub mod Message
pub mod Answer
pub mod Elimination
pub mod Columns
