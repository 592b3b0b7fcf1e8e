-- ---- texts and verdicts
pub mod VerdictLaws
-- ---- durations
pub mod Sums
-- ---- the reply that is late
pub mod LateReplies
-- ---- numbers of flags
pub mod Skews
pub mod FlagNumbers
-- ---- how a run by flags ends
pub mod WordEndings
pub mod FlagEndings
