-- The definitions of this crate, and those of lower crates that its public clauses name.
pub use Rattle.moka_recording.specs.History
pub use Rattle.moka_recording.specs.Receipts
pub use Rattle.moka_single_flight.specs.Rounds
pub mod Gets
pub mod GivesBack
pub mod Keeps
pub mod StepForm
pub mod Waking
