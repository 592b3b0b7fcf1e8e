-- For callers: other crates cite Acting, Forces, Grows, Lives, Names, Plainly, Processes, Readings, Restarts, Scripted, Wakes. Nothing else is cited
--   from outside.
-- ---- numbers, names and single entries
pub mod Names
pub mod Unheard
pub mod Lives
pub mod Plainly
pub mod Grows
-- ---- the clock
pub mod Firsts
pub mod Rates
pub mod Readings
-- ---- a controller's term
pub mod Begun
pub mod Times
pub mod OwnTerm
-- ---- a controller beside entries of others, and through its own
pub mod Terms
pub mod Quiet
pub mod Releases
pub mod Standing
pub mod Beside
pub mod Turning
pub mod Restarts
pub mod Scripted
pub mod Stopping
pub mod Timers
pub mod Ending
pub mod Answering
pub mod Acting
pub mod Forgetting
-- ---- a kubelet
pub mod Kubelets
pub mod Rounds
-- ---- every process
pub mod Wakes
pub mod Processes
pub mod Forces
