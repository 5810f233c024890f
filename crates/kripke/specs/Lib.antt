pub mod Models
pub mod Lassos
pub mod Laws
