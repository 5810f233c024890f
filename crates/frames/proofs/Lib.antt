pub mod Cuts
pub mod Spelling
pub mod Written
pub mod Framing
