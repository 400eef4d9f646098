pub mod Kept
pub mod Guarded
