-- Definitions that those of this crate use, exported to the crates above.
pub use Rattle.mokabox_syntax.specs.OutputLine
pub use Rattle.mokabox_syntax.specs.Fields
pub mod Threads
