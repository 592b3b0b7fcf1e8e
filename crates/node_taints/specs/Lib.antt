pub mod Editing
pub mod Wanting
