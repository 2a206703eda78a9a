pub mod Classes
pub mod Answer
pub mod Numbering
pub mod Folding
