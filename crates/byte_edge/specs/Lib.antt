pub mod Borrowed
pub mod Bytes
pub mod Calm
pub mod Memory
