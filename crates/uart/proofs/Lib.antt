pub mod Receivers
pub mod Receiving
pub mod Streams
pub mod Contents
pub mod RoundTrips
pub mod Damage
pub mod Examples
