pub mod Slots
pub mod Confirmations
pub mod Examples
