pub mod Searching
pub mod Slots
pub mod Ways
