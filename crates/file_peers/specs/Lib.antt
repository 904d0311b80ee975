pub mod Collecting
pub mod Delivering
pub mod Dropping
pub mod Lines
pub mod Taking
