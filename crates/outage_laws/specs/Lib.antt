pub mod Attended
pub mod Passes
pub mod Marked
pub mod Gone
