pub mod Answered
pub mod Packets
pub mod Replied
pub mod Runs
pub mod Timeline
