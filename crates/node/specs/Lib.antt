pub mod Node
pub mod Frc
pub mod State
pub mod Examples
