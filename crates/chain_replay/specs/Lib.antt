pub mod Ends
pub mod Faults
pub mod Opened
pub mod Owned
pub mod Private
pub mod Replays
pub mod Scripts
