-- For callers: other crates cite Due, Own, Pauses, Ticks.
pub mod Due
pub mod Pauses
pub mod Own
pub mod Ticks
