pub mod Alone
pub mod Entries
pub mod Passes
pub mod Verdict
