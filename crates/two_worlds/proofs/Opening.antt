-- What an opening leaves, and what parts that work have ready.
pub mod Blames
pub mod Comparing
pub mod Ends
pub mod Founds
pub mod Headers
pub mod Lives
pub mod NewDisks
pub mod Opened
pub mod Readies
pub mod Ready
pub mod Refusing
pub mod Restarting
pub mod RowRanges
pub mod Surveying
pub mod Working
