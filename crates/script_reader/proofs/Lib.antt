mod ClockRatesLemmas
pub mod LeaseLemmas
pub mod Loops
pub mod Named
pub mod OwnWaits
pub mod Parsed
mod PlainShares
mod SetLoops
mod Walks
