pub mod Leaves
pub mod Tidy
