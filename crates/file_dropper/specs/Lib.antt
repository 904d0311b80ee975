pub mod Readings
pub mod Leaving
pub mod Works
