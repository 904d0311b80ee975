pub mod Cuts
pub mod PieceLists
pub mod Rooms
pub mod Unseen
