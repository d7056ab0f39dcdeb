-- To be read in this order.
pub mod Sectors
pub mod Validity
pub mod Shots
pub mod ArcsLeft
pub mod Checks
pub mod Demands
pub mod Figures
