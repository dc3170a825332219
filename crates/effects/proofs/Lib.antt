pub mod Tasks
pub mod Walks
pub mod LampChanges
pub mod Effects
pub mod Rules
