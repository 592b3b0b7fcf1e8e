pub mod Answering
pub mod Placing
pub mod Waiting
pub mod Starting
