-- For callers: other crates cite CleanLaws. Nothing else is cited from outside.
pub mod Below
pub mod CleanLaws
