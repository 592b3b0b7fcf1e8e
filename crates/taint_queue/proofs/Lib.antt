pub mod Leaving
pub mod Numbered
pub mod Places
pub mod Slots
