-- For callers: other crates cite Readings. Nothing else is cited from outside.
pub mod Readings
mod SegmentsLemmas
mod Keeping
mod FirstBeat
pub mod Walls
