pub mod Within
pub mod Views
pub mod Calls
pub mod Answers
