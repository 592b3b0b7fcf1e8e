-- For callers: other crates cite Frames. Nothing else is cited from outside.
pub mod Beats
pub mod Frames
pub mod Links
pub mod Nexts
pub mod Orders
pub mod Passing
pub mod Sends
