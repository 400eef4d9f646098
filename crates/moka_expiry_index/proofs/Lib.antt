pub mod Closing
pub mod Levels
pub mod SlotLemmas
