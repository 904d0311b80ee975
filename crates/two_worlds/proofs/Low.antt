-- A low look of a pump.
pub mod Disks
pub mod Does
pub mod Grows
pub mod Leads
pub mod Looked
pub mod Lost
pub mod Passes
pub mod Serves
pub mod Sorts
pub mod Stepping
pub mod Told
pub mod Wants
pub mod Works
pub mod Worlds
