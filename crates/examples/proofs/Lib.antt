pub mod Tests
pub mod Runs
pub mod Circles
pub mod Known
pub mod Alternating
pub mod Going
pub mod Pairing
