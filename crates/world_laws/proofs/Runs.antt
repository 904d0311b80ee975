-- The laws over worlds and runs.
pub mod Acknowledged
pub mod Classes
pub mod CoarseScripts
pub mod Listed
pub mod ListedClasses
pub mod Outliving
pub mod Pairs
pub mod Worlds
