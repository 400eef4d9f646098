pub mod Callers
pub mod Counts
pub mod Goings
pub mod Iterations
pub mod KeyCounts
pub mod Laws
pub mod Needs
