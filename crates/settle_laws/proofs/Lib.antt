pub mod Pausing
pub mod Deciding
pub mod Successes
pub mod Terms
pub mod Early
pub mod Writing
pub mod Settled
