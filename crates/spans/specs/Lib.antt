pub mod Spans
pub mod Walking
