pub use Rattle.moka_rows.specs.Rows
pub mod ExpiryIndex
pub mod MinTree
pub mod Slots
