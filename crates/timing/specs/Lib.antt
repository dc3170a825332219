pub mod Slot
pub mod Confirm
