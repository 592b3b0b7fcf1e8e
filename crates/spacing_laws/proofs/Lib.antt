pub mod Spaced
pub mod Effects
pub mod Rates
pub mod Rows
pub mod Firsts
pub mod Turns
pub mod Counts
pub mod Spacings
