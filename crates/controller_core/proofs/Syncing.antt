pub mod Rest
pub mod Noting
pub mod Synced
