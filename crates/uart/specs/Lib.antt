pub mod Receiver
pub mod Progress
pub mod Stream
pub mod Serial
