pub mod ParseAll
pub mod ParseAnswer
pub mod PayloadItems
