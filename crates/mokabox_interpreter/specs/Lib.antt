-- Definitions that those of this crate use, exported to the crates above.
pub use Rattle.mokabox_syntax.specs.OutputLine
pub use Rattle.mokabox_syntax.specs.Command
pub use Rattle.mokabox_syntax.specs.Settings
pub mod Program
pub mod Script
pub mod Session
pub mod Status
