pub mod Properties
pub mod Reading
pub mod Canonical
pub mod Laws
