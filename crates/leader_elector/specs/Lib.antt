pub mod Attempts
pub mod Calls
pub mod Moves
pub mod Plain
pub mod Releases
pub mod Stands
