-- The definitions of this crate, and those of a lower crate that its public clauses cite.
pub use Rattle.moka_guarded.specs.Kept
pub mod Builder
pub mod Cache
pub mod ReplaceIf
pub mod Segments
pub mod Waiting
