-- The lemmas in layers: a file stands on those of the layers above its own in this list, and on those before it in its layer.
-- ---- layer 1: lists, ranges and places
pub mod Lists
pub mod Ranges
pub mod Moving
-- ---- layer 2: what a history keeps
pub mod Known
pub mod Fewness
pub mod Puts
pub mod Events
-- ---- layer 3: the world around one process
pub mod Around
pub mod MidBeat
pub mod Scripts
-- ---- layer 4: the steps of a beat, and beats that are passed over
pub mod Loops
pub mod Ticking
pub mod InTime
pub mod Beats
pub mod Happening
pub mod Turns
pub mod Noting
pub mod Passing
pub mod Skipping
pub mod Awake
pub mod Leaves
-- ---- layer 5: what can be written
pub mod Writing
