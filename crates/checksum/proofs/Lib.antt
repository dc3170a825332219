pub mod Fletcher
pub mod Blocks
pub mod Checks
pub mod Examples
