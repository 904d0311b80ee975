pub mod HighSteps
pub mod Joins
pub mod LowSteps
pub mod PlainSteps
pub mod QueueSteps
pub mod Views
