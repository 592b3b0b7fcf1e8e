-- ---- numbers
pub mod Numbers
-- ---- a text as it is written
pub mod Said
pub mod Writables
pub mod Grown
pub mod Counted
pub mod Plain
pub mod States
-- ---- how a run ends
pub mod Endings
pub mod Outcomes
pub mod Bounded
pub mod Claimed
