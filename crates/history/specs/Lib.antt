pub mod Evictions
pub mod History
pub mod Premise
pub mod Printed
pub mod Safe
pub mod Sound
pub mod Spacing
pub mod Steps
