pub mod Filling
pub mod Checking
pub mod Gaps
pub mod Outside
