-- A line of the script, from its parts.
pub mod Applied
pub mod DoesMore
pub mod Done
pub mod Kept
pub mod On
pub mod Ran
pub mod Restarts
pub mod Runs
pub mod Timely
