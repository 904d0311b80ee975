pub mod Delays
pub mod Streams
