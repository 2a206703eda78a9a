pub mod Count
pub mod Answer
