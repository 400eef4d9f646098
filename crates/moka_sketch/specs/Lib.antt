pub mod Sketch
pub use Rattle.moka_policy.specs.Frequency
