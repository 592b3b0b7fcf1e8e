pub mod Homes
pub mod Limits
pub mod Places
pub mod Pushing
pub mod Waiting
