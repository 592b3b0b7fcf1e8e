-- For callers: other crates cite Endings. Nothing else is cited from outside.
pub mod Inputs
pub mod Endings
