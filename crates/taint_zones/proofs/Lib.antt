pub mod Homing
pub mod PushMaps
pub mod Tokening
pub mod ZoneMaps
