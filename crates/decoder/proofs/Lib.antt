pub mod Settling
pub mod VisitCounts
pub mod Passes
pub mod Trials
pub mod SweepSums
