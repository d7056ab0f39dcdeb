-- To be read in this order; the last is for the proofs of the inner functions alone.
pub mod Points
pub mod Profiles
pub mod Mixed
pub mod Revolutions
pub mod Demands
pub mod Figures
pub mod Asked
