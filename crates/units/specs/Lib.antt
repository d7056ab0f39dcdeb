-- To be read in this order.
pub mod Units
pub mod Directions
pub mod Times
pub mod Demands
