-- For callers: other crates cite Frames. Nothing else is cited from outside.
pub mod Frames
pub mod Looks
pub mod Nodes
pub mod Records
pub mod Searches
pub mod Seeing
pub mod Verdicts
