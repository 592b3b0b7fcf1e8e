pub mod Wishes
pub mod Plans
pub mod Greatest
pub mod Searches
