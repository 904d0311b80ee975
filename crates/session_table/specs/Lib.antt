pub mod Answers
pub mod Documents
pub mod Faults
pub mod Keys
pub mod Rows
pub mod Tables
pub mod Values
