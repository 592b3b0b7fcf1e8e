pub mod Cache
pub mod Early
pub mod Current
pub mod Turns
pub mod Limit
