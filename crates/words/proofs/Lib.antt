pub mod Degrees
pub mod Patterns
pub mod RightWords
pub mod Marks
pub mod Putting
