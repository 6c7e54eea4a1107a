pub mod Bounds
pub mod Guarded
pub mod Placed
pub mod Places
pub mod Verdicts
