-- To be read in this order.
pub mod Modes
pub mod Jobs
pub mod Nav300
pub mod Fields
pub mod Changes
pub mod Ranges
pub mod Fresh
pub mod Replies
pub mod Figures
