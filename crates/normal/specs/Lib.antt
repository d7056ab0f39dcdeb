-- To be read in this order.
pub mod NormalForm
pub mod Demands
pub mod Figures
