pub mod Counted
pub mod Settings
