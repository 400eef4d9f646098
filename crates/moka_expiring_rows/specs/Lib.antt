pub use Rattle.moka_rows.specs.Rows
pub use Rattle.moka_slab.specs.Store
pub use Rattle.moka_expiry_index.specs.ExpiryIndex
pub use Rattle.moka_expiry_index.specs.Slots
pub mod RowDeadlines
pub mod Ready
