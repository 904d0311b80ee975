-- The receiver is opened again.
pub mod Attached
pub mod Receiver
pub mod Refused
