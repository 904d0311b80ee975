-- A packet that comes to the receiver.
pub mod Answered
pub mod Carried
pub mod Carries
pub mod Serves
pub mod Works
