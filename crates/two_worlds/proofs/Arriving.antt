-- What comes on the connection.
pub mod Coming
pub mod Connected
pub mod Joining
pub mod RawBytes
