pub mod Collecting
pub mod Commands
pub mod Dropping
pub mod Ends
