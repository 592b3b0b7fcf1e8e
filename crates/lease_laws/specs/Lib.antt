pub mod Respects
pub mod Emptied
