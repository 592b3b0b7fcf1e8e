pub mod Unticked
pub mod Sublists
pub mod Asked
pub mod Names
