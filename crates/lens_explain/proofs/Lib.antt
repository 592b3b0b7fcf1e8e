pub mod Added
pub mod Told
pub mod Parts
pub mod Steps
pub mod KeptLaws
pub mod Doubling
pub mod Stops
