pub mod Fitting
pub mod Looking
