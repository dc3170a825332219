pub mod Block
pub mod Fault
pub mod Request
pub mod View
