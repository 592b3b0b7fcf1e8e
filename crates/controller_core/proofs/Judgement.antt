pub mod Begun
pub mod Folds
pub mod One
pub mod Standing
pub mod Steps
pub mod Trying
pub mod Verdicts
pub mod Walking
