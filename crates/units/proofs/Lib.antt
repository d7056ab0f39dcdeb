pub mod ShotCounts
pub mod Rounding
