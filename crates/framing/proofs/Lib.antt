pub mod Escapes
pub mod Sending
pub mod Examples
