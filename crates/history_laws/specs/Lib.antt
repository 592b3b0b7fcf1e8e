pub mod Tails
pub mod Versions
pub mod Order
pub mod Calls
pub mod Starts
pub mod Bare
pub mod Own
