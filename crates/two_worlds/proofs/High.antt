-- A high look of a pump.
pub mod Attaching
pub mod Disks
pub mod Failing
pub mod Fetching
pub mod HandFull
pub mod Looking
pub mod Removals
pub mod Returning
pub mod Sendings
pub mod Serves
pub mod Standing
pub mod Works
