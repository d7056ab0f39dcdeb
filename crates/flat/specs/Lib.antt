-- To be read in this order.
pub mod Plans
pub mod Sent
