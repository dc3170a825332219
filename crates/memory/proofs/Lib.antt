pub mod Blocks
pub mod Overwrite
pub mod Requests
pub mod Views
pub mod Examples
