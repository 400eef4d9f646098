pub mod Between
pub mod Copies
pub mod EqualCopies
pub mod Histories
pub mod Moves
pub mod Openings
pub mod PassCopies
pub mod Passes
