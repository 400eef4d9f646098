pub use Rattle.moka_rows.specs.Rows
pub use Rattle.moka_index.specs.RowIndex
pub mod Lives
pub mod NumberedRows
pub mod Tied
pub mod Store
