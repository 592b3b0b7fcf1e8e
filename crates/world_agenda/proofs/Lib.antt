pub mod Apart
pub mod Waking
pub mod Acting
pub mod Resuming
pub mod Looking
pub mod Others
pub mod Going
