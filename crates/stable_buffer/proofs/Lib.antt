pub mod Cells
pub mod Coarse
pub mod Fresh
pub mod Logs
pub mod Making
mod Numbers
pub mod Slots
pub mod Store
