pub mod Dashes
pub mod Lengths
pub mod One
pub mod Tildes
pub mod OutboxLogs
pub mod Free
