pub mod Spans
pub mod Looks
pub mod Quotients
