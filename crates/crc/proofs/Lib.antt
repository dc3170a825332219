pub mod Xor
pub mod CheckBytes
pub mod Changes
pub mod Examples
