pub mod Groups
pub mod EntrySize
pub mod EntryGroups
pub mod FirstEntry
pub mod EntryWritable
pub mod Writers
pub mod Writing
pub mod Examples
