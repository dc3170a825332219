pub mod Gateway
pub mod History
pub mod Examples
