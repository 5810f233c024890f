pub mod Bits
pub mod Masking
