pub mod Adding
pub mod ByHand
pub mod Common
pub mod ForCallers
pub mod Joining
pub mod PayloadSteps
pub mod Resting
