pub mod Requests
pub mod Output
pub mod Fill
pub mod Form
