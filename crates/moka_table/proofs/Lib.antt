pub mod Callers
pub mod Each
pub mod Finds
pub mod Weights
pub mod HiddenWhere
mod KeyWalks
pub mod Walks
pub mod Plain
