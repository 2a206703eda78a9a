pub mod Numbers
pub mod Folds
pub mod Entries
pub mod Keys
pub mod Tables
pub mod LookUps
