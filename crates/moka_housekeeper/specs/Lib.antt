pub mod Hit
pub mod Maintain
pub mod Visits
pub mod Write
