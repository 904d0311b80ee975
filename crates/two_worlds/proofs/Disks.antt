-- What crashes leave of the three disks.
pub mod Crashes
pub mod Images
pub mod Leaving
pub mod LeavesWorld
pub mod OpensSurely
pub mod Together
