-- For callers: other crates cite AloneLaws, LineLaws. Nothing else is cited from outside.
pub mod AloneLaws
pub mod LineLaws
pub mod PassLaws
pub mod VerdictLaws
