pub mod Records
pub mod Lines
pub mod Talks
pub mod Asked
