pub mod Sums
pub mod Blocks
pub mod Check
pub mod Seen
