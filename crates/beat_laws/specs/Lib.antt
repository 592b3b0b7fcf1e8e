pub mod Unticked
pub mod Names
