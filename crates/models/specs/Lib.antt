pub mod Markings
pub mod Clamps
pub mod Pairs
pub mod Tables
pub mod Entries
pub mod Fillings
pub mod Laws
