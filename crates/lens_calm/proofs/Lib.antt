-- ---- members that are added to others
pub mod Joins
-- ---- settings with a value
pub mod InRange
