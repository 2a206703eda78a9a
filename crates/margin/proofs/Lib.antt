pub mod MarginInputs
pub mod Outputs
pub mod LongInputs
