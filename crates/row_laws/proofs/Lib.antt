pub mod Rows
pub mod Probes
pub mod Keys
pub mod Bases
