pub mod Walls
pub mod Ready
pub mod Turns
pub mod Rest
pub mod Passes
pub mod Marked
pub mod Silent
pub mod Gone
