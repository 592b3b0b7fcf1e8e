pub mod Outcome
pub mod Inputs
pub mod Exits
