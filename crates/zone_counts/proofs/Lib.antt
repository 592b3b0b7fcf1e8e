-- For callers: other crates cite Listed. Nothing else is cited from outside.
pub mod Listed
pub mod RateLaws
pub mod Totals
