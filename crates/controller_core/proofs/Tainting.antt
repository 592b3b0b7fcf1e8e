pub mod Attempting
pub mod Firsts
pub mod Lacks
pub mod Settles
pub mod ZoneWalk
