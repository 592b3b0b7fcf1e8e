-- For callers: other crates cite Cleaning, Evicting, Foreign, Frames, Heads, Judging, Marking, Named, Orders, Phases, Pushing, Quiet, Sights, Steps, Syncing, Tainting,
--   Ticked, ToJudge, Tried, Waiting, Walks, Zoning. Nothing else is cited from outside.
-- The lemmas in layers: a file stands on those of the layers above its own in this list, and on those before it in its layer.
-- ---- layer 1: orders, walks, and what an entry changes
pub mod Orders
pub mod Walks
pub mod Frames
pub mod ToJudge
-- ---- layer 2: names, heads of queues, and what stays as it was
pub mod Named
pub mod Heads
pub mod Tried
-- ---- layer 3: single phases of a tick
pub mod Syncing
pub mod Cleaning
pub mod Judging
pub mod Marking
pub mod Evicting
-- ---- layer 4: the entries of one tick
pub mod Reached
pub mod Zoning
pub mod Ticked
pub mod Steps
pub mod Room
pub mod Waiting
-- ---- layer 5: entries that are no tick's, and the phase of queued taints
pub mod Foreign
pub mod Tainting
pub mod Pushing
-- ---- layer 6: the whole tick
pub mod Phases
pub mod Sights
pub mod Quiet
