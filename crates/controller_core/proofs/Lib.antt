-- For callers: other crates cite Between, Others, Starting. Nothing else is cited from outside.
pub mod Cursors
pub mod Syncing
pub mod Passing
pub mod Cleaning
pub mod Judgement
pub mod Tainting
pub mod Evicting
pub mod Allowed
pub mod Between
pub mod FirstSync
pub mod HeadsKept
pub mod Others
pub mod Pushed
pub mod Readying
pub mod Starting
pub mod Turning
pub mod Waking
