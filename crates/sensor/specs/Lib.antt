-- To be read in this order.
pub mod Table
pub mod Requests
pub mod Demands
pub mod WrongCounts
pub mod Figures
