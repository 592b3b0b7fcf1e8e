pub mod Ages
pub mod Loops
pub mod Pieces
pub mod Slots
