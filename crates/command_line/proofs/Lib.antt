pub mod Asked
pub mod Commas
pub mod Plain
pub mod PlainWalks
pub mod Sole
pub mod Taken
pub mod Texts
