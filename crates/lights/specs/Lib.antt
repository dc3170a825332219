pub mod Lamp
pub mod Bits
pub mod Lights
pub mod Remaining
