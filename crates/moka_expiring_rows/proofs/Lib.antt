pub mod RowDeadlineLemmas
pub mod Listing
pub mod Noted
