pub mod Lists
pub mod Shelves
pub mod Keyed
pub mod Pairs
