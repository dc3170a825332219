pub mod Changes
pub mod Examples
pub mod PlaceTests
pub mod Rules
