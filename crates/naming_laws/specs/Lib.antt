pub mod Items
pub mod WellFormed
pub mod Laws
