pub mod Silence
pub mod Least
