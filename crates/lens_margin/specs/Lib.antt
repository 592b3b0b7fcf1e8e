pub mod Laws
pub mod Margins
