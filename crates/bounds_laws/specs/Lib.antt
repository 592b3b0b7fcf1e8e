pub mod Alike
pub mod Undisturbed
pub mod Elections
