pub mod Flips
pub mod SquarePlan
pub mod Decoding
