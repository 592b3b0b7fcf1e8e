-- For callers: other crates cite StepLaws. Nothing else is cited from outside.
-- ---- loops over lines, terms and cells
pub mod StepLaws
pub mod TableLaws
-- ---- what is told
pub mod ToldLaws
pub mod TogetherLaws
pub mod TotalLaws
