pub mod TermLaws
pub mod Sorting
pub mod StretchLaws
