pub mod Terms
pub mod Acting
pub mod Gathered
pub mod Spans
pub mod Together
pub mod Beats
