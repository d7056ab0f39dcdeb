pub mod Decimals
pub mod Parts
pub mod Taking
pub mod Rooms
pub mod Talking
