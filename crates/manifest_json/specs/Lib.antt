pub mod Faults
pub mod Fields
pub mod Kept
pub mod Members
pub mod Readable
pub mod Walk
pub mod Written
