pub mod PairBound
pub mod Graph
pub mod SpreadSize
pub mod Walks
pub mod Answers
