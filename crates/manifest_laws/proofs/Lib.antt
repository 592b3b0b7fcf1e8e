pub mod FittingItems
pub mod Getting
pub mod Growing
pub mod ReadFields
pub mod ReadHolders
pub mod ReadItems
pub mod ReadableGrows
