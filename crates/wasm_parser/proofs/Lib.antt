pub mod Common
pub mod EachPayload
pub mod ForCallers
pub mod Parsing
pub mod PayloadItems
pub mod Walking
