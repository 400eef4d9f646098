-- The definitions of this crate, and those of lower crates that its public clauses cite.
pub use Rattle.moka_segment_model.specs.Segments
pub use Rattle.moka_state.specs.Settings
pub use Rattle.moka_state.specs.State
pub mod Conserved
pub mod Ends
pub mod Forms
pub mod Maintained
pub mod SegmentedData
pub mod Step
pub mod Turns
