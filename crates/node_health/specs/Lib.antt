pub mod Named
pub mod Kept
pub mod Recorded
pub mod Stands
