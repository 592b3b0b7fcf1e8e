pub mod Ahead
pub mod Changed
pub mod Held
pub mod Order
pub mod Queue
pub mod Rows
