-- To be read in this order.
pub mod Bits
pub mod Masks
pub mod Fields
pub mod Layout
pub mod Lengths
-- mixed profiles
pub mod MixedMasks
pub mod Mixed
