pub mod Appends
pub mod Blocks
pub mod Calls
pub mod Coarse
pub mod Places
pub mod Walk
