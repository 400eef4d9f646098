pub mod Building
pub mod Frequency
pub mod NumberHash
pub mod Policy
pub use Rattle.moka_model.specs.Lives
