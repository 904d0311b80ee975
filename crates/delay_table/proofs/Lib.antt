pub mod Quantiles
