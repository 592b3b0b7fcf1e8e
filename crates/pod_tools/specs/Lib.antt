pub mod ByKey
pub mod Collected
pub mod Feasible
pub mod Judged
pub mod Readiness
pub mod Texts
