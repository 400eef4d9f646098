pub use Rattle.moka_model.specs.Conserved
pub mod CallsOfSegments
pub mod SegmentLaws
pub mod Segments
pub mod WorkedSegments
