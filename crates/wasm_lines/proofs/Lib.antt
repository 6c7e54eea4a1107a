pub mod ForCallers
pub mod Common
pub mod ListTurns
pub mod SkipList
pub mod Skipped
