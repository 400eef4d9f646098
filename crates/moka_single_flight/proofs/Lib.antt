pub mod Callers
pub mod Left
