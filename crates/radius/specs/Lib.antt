pub mod Margin
pub mod Answer
pub mod Demand
pub mod Chain
pub mod Ranges
