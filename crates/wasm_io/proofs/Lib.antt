pub mod Cut
pub mod Decimal
pub mod ForCallers
pub mod Hexadecimal
pub mod Saying
