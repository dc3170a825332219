pub mod Group
pub mod Entry
pub mod Join
pub mod EntrySize
pub mod Writing
pub mod Writer
