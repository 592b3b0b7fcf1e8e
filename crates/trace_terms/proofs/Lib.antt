pub mod Least
pub mod SeatsLaws
pub mod NearLaws
pub mod SeatLaws
pub mod ReviewLaws
pub mod RollTexts
pub mod SpacingLaws
pub mod StrayLaws
