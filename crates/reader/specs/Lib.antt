-- To be read in this order.
pub mod Said
pub mod Sectors
pub mod Endings
pub mod Readings
pub mod Stretches
pub mod Parts
pub mod Demands
-- mixed profiles
pub mod Mixed
pub mod Places
pub mod MixedStretches
pub mod MixedParts
pub mod Lent
pub mod MixedDemands
pub mod Figures
