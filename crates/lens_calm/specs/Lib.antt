pub mod Settings
pub mod Words
pub mod Lines
pub mod Objects
pub mod Answers
pub mod Tolerated
pub mod Documents
