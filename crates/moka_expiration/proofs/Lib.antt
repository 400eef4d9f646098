pub mod Deadlines
pub mod Callers
