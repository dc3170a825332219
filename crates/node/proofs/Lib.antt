pub mod Maps
pub mod Nodes
pub mod FrcAnswers
pub mod LampTests
pub mod Examples
