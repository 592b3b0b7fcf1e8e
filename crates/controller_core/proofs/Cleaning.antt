pub mod CleanFound
pub mod CleanWalk
pub mod Cleans
pub mod Keeping
pub mod PassSeen
