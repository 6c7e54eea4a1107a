pub mod FlagTexts
pub mod ForCallers
pub mod Listing
pub mod Noting
pub mod Seeing
pub mod Walking
