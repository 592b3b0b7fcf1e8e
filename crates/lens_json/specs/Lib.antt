pub mod Members
pub mod Clean
pub mod Parts
