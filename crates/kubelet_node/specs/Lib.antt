pub mod Moves
pub mod Plain
pub mod Requests
pub mod Stands
