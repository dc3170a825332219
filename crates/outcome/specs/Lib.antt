pub mod Request
pub mod Effect
pub mod Seen
pub mod Examples
