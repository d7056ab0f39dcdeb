pub mod Delivery
pub mod HandedLaws
pub mod SettingsParts
pub mod Parts
pub mod Measuring
pub mod SameParts
pub mod StateRows
