pub mod Deciding
pub mod States
pub mod Searching
