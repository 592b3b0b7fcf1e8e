pub mod FeedLaws
pub mod Kept
pub mod Stands
pub mod StoreAnswers
