pub mod Delivering
pub mod Giving
pub mod Greeting
pub mod Looking
pub mod Stepping
pub mod Taking
pub mod Turning
pub mod Visiting
