pub mod BondCalls
pub mod Calls
pub mod Examples
pub mod Gateways
pub mod Histories
pub mod Releases
