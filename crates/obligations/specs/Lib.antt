pub mod Layers
pub mod Testing
pub mod Dues
pub mod Shapes
