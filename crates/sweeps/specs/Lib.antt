pub mod Sweep
pub mod Sweeping
