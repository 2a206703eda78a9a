pub mod Bit
pub mod Sum
pub mod Search
pub mod Window
