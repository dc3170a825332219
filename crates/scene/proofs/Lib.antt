pub mod Calls
pub mod Refusals
pub mod Examples
