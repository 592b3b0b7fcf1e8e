pub mod KeyOrder
pub mod QueueLaws
