pub mod Commanded
pub mod PremiseLaws
