pub mod Causes
pub mod CommandEnds
pub mod NoRows
pub mod Tables
