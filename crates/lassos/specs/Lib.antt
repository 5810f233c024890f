pub mod Rounds
pub mod Truths
pub mod Sweeps
pub mod Judging
pub mod Lists
