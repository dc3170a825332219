pub mod Step
pub mod Kind
pub mod Seen
pub mod Machine
