pub mod Runs
pub mod Reporting
pub mod Lengths
