pub mod PairRule
pub mod Parting
pub mod Ready
pub mod RingEnds
pub mod RingRule
