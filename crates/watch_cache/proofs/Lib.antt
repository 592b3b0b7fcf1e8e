-- For callers: other crates cite Frames, Same, Syncs, Ticks. Nothing else is cited from outside.
pub mod Frames
pub mod IndexLaws
pub mod Lists
pub mod Looks
pub mod Moves
pub mod Orders
pub mod Same
pub mod Settling
pub mod Syncs
pub mod Takes
pub mod Ticks
