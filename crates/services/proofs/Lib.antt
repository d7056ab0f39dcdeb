pub mod Packing
pub mod Cold
pub mod Lawful
pub mod SettingsLawful
pub mod MixedLawful
