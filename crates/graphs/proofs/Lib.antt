pub mod Layers
pub mod Distances
pub mod Counts
pub mod Queues
pub mod Climbing
pub mod Routes
pub mod Clearing
pub mod Finders
