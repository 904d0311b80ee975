-- A line of a low side alone.
pub mod Ends
pub mod Lines
pub mod Looks
pub mod PumpLines
pub mod Ready
pub mod Stores
