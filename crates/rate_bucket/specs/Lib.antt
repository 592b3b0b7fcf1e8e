pub mod Allowing
pub mod Filling
