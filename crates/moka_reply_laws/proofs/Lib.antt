pub mod Copies
pub mod Counts
pub mod Looks
pub mod Memory
pub mod Notices
