pub mod Waits
pub mod Worlds
