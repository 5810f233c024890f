pub mod Words
pub mod Carrying
pub mod Settings
pub mod Rounding
pub mod Visiting
pub mod Lassos
pub mod Shapes
