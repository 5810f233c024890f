pub mod Truth
pub mod OnLassos
pub mod Product
pub mod Paths
pub mod Laws
