-- ---- numbers
pub mod Rounding
pub mod Bounds
-- ---- tests
pub mod Premises
pub mod Closed
-- ---- the search
pub mod Misses
