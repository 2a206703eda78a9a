pub mod Counting
pub mod VertexTests
pub mod BitChange
pub mod Answers
