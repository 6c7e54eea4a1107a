pub mod Collected
pub mod Common
pub mod Ending
pub mod Folding
pub mod Items
pub mod Parts
pub mod Texts
pub mod Visiting
