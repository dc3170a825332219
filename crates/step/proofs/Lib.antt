pub mod Faults
pub mod MachineLaws
pub mod GoodSteps
pub mod Examples
