-- For callers: other crates cite Frames. Nothing else is cited from outside.
pub mod Frames
pub mod Own
pub mod Rounds
