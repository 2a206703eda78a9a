pub mod Sweeping
pub mod Visiting
pub mod Rounds
