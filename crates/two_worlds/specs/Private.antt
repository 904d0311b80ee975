-- The words of private functions. No public clause names them.
pub mod Arrivals
pub mod Carrying
pub mod GoingOn
pub mod HighLooks
pub mod LineSteps
pub mod LowLooks
pub mod Opened
pub mod PartSteps
pub mod Readied
pub mod Reopening
pub mod Restarting
pub mod Serving
pub mod StateSteps
