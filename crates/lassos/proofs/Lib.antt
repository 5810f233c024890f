pub mod Words
pub mod Joins
pub mod Sweeps
pub mod Nodes
pub mod Counterexamples
