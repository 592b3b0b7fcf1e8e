pub mod Answers
pub mod Fields
pub mod Laws
pub mod Rows
pub mod Tables
pub mod Walk
