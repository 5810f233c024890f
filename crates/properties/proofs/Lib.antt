pub mod Growing
pub mod Bits
pub mod Moves
pub mod Verdicts
pub mod Readings
pub mod Texts
pub mod Shown
pub mod Formed
