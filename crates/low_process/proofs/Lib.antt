pub mod Coarse
pub mod Effects
pub mod Greetings
pub mod Keeping
pub mod Looking
pub mod Offering
pub mod Wholes
