-- For callers: other crates cite Keeps. Nothing else is cited from outside.
pub mod Items
pub mod Keeps
pub mod KeptLaws
pub mod Stamped
pub mod Told
