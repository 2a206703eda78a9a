pub mod Telling
pub mod Unsettled
