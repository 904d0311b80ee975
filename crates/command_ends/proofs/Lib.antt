pub mod CommandEnds
pub mod TableRows
