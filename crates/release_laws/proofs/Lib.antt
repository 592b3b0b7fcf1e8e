pub mod Freeing
pub mod Accepted
pub mod Answered
pub mod Setting
pub mod Following
