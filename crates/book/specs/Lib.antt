pub mod Records
pub mod Book
pub mod Positions
pub mod Check
pub mod Steps
pub mod Write
pub mod Examples
