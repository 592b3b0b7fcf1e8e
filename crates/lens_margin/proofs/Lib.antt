-- For callers: other crates cite Leased, Numbers. Nothing else is cited from outside.
-- ---- numbers
pub mod Bounds
pub mod Positive
pub mod Leased
pub mod Paused
pub mod Numbers
