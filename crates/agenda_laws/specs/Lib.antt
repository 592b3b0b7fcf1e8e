pub mod Standing
pub mod Parts
pub mod Times
pub mod Ticking
pub mod Waking
pub mod Ahead
