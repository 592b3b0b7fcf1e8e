pub mod Waits
pub mod Steps
pub mod Answers
pub mod Histories
pub mod Gaps
pub mod Others
