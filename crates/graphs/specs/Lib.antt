pub mod Successors
pub mod Walks
pub mod Words
pub mod Parents
pub mod Paths
pub mod Finders
