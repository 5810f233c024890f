pub mod Views
pub mod Meaning
pub mod Normal
