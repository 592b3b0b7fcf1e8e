pub mod Queue
pub mod Heads
pub mod Tokens
pub mod Waves
pub mod Least
pub mod Swaps
