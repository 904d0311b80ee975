pub mod Exercises
pub mod Exercising
