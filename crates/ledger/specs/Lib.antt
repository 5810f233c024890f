pub mod Turns
pub mod Ledgers
pub mod Table
pub mod Law
pub mod Runs
