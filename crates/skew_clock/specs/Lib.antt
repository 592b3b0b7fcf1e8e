pub mod Clocking
pub mod Segments
