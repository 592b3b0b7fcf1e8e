-- For callers: other crates cite Aside, Counted, Judging, Settling, Sighted, Takes, Telling, Viewing, Widen. Nothing else is cited from outside.
pub mod Answering
pub mod Aside
pub mod Closing
pub mod Counted
pub mod Judging
pub mod Lasting
pub mod SameTaints
pub mod Settling
pub mod Sighted
pub mod Takes
pub mod TakingDue
pub mod Telling
pub mod Viewing
pub mod Widen
pub mod Writing
