pub mod Answers
pub mod HighRule
pub mod LowRule
pub mod Parting
pub mod Plain
pub mod QueueEnds
pub mod QueueRule
pub mod Ready
