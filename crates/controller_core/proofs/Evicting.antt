pub mod Dues
pub mod Settled
pub mod Attempting
pub mod Walking
pub mod Within
