-- What the crates above may use of the proofs here: what is known of a row that is there, and of equal rows, a walk over the rows of an order, and what a change of one row keeps of what holds of each row.
pub use Rattle.moka_table.proofs.Finds.{found-row, one-found, same-row-key, same-row-value}
pub use Rattle.moka_table.proofs.Walks.{one_more-le, Walks, walks-first, AtCursor, walks-on, walks-stored, at-admitted, at-waiting}
pub use Rattle.moka_table.proofs.Each.{of-row, of-used, of-taken, of-used-admitted, of-taken-admitted}
