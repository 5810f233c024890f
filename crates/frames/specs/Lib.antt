pub mod Digits
pub mod Lines
pub mod Frames
pub mod Borrowed
pub mod Refusals
pub mod Areas
pub mod Writers
