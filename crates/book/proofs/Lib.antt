pub mod Records
pub mod Positions
pub mod Books
pub mod Checks
pub mod RoundTrip
pub mod Examples
