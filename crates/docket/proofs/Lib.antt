pub mod Limits
pub mod Takes
pub mod Twice
