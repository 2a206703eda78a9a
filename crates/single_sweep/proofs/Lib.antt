pub mod TurnedBits
pub mod Visits
pub mod Answers
