-- For callers: other crates cite Lists, NameLemmas, TimeTexts. Nothing else is cited from outside.
pub mod DayLemmas
pub mod Lists
pub mod NameLemmas
pub mod TimeTexts
pub mod WrittenDays
