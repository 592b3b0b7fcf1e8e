pub mod Order
pub mod Placed
pub mod PushNumbers
pub mod Pushed
pub mod Queue
pub mod Slots
pub mod Tidy
