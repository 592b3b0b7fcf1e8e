pub mod Successions
