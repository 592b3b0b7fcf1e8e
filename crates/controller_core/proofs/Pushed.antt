pub mod PushWalk
pub mod Turns
pub mod Wants
