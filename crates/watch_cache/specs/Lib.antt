pub mod Indexed
pub mod Kept
pub mod Listed
pub mod NoFeed
pub mod Objects
pub mod TaintChanges
pub mod Stands
pub mod Told
