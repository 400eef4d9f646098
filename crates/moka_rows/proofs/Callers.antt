-- What the crates above may use of the proofs here: rows by their numbers, how many there are, a cursor over rows, and
-- what holds of each.
pub use Rattle.moka_rows.proofs.RowLemmas.{with_row-absent, with_row-append_right, with_row-here, without_row-absent, without_row-append_left, without_row-append_right}
pub use Rattle.moka_rows.proofs.RowLemmas.{row_under-append_left, row_under-append_right, length-with_row, length-without_row, split_at_row}
pub use Rattle.moka_rows.proofs.Cursors.{rows_from, rows_from-first, rows_from-at, begins-with, absent-before, stored-at, row_under-at, without_row-at, number_after-at, differ-without, differ-front, differ-back}
pub use Rattle.moka_rows.proofs.Cursors.{none-first, first-stored, takes-first}
pub use Rattle.moka_rows.proofs.Elements.{all-append, all-front, all-back}
pub use Rattle.moka_rows.proofs.NumberLemmas.{count_under-append, count_under-some, absent-behind}
pub use Rattle.moka_rows.proofs.Lengths.{length-used, length-taken, length-admitted, length-added, length-first, length-changed}
pub use Rattle.moka_rows.proofs.EachRow.{each-at, each-without, each-changed, each-used, each-taken, each-admitted, each-added, each-more}
