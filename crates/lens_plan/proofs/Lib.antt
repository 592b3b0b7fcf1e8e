-- ---- the ranges of a plan
pub mod Small
-- ---- what is told
pub mod Endings
