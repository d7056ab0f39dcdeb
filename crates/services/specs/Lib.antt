-- To be read in this order: what an answer is, then the services in the groups of the listings.
pub mod Answers
pub mod Status
pub mod Configuration
pub mod Measurement
pub mod Working
pub mod Nav300
pub mod Mixed
