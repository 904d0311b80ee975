pub mod Causes
pub mod Doors
pub mod Memory
pub mod Pieces
pub mod Ports
pub mod Running
pub mod Tells
