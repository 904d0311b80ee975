pub mod Exercised
pub mod Tallies
