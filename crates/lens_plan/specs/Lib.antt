pub mod Decimals
pub mod Wanted
pub mod Words
pub mod Found
pub mod Lines
pub mod Objects
pub mod Answers
