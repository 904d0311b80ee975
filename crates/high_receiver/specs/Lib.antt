pub mod LogReading
pub mod Receiving
pub mod Records
pub mod Steps
