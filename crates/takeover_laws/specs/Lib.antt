pub mod Calm
pub mod Rounds
pub mod Acting
pub mod Asking
pub mod Taking
pub mod Waits
