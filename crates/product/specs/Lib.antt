pub mod Starts
pub mod Onward
pub mod Owners
pub mod Applications
pub mod Vertices
pub mod Chains
pub mod Laws
