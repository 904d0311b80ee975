pub mod FileNames
pub mod Files
pub mod Messages
pub mod Cuts
pub mod Assemblies
