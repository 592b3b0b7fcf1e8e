pub mod Laws
pub mod WrittenOut
