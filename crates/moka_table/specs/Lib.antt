pub mod LiveEntry
pub mod Lookup
pub mod Notices
pub mod Table
pub mod WriteSlot
