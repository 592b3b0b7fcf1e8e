pub mod Elections
pub mod Outages
pub mod Documents
