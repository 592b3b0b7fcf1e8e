pub mod Entries
pub mod Findings
pub mod Near
pub mod Reviews
pub mod Seats
pub mod Terms
