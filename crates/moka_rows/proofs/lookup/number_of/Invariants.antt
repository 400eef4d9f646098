use Rattle.std.proofs.Common.{◌≡◌, ◌+◌, find, drop}
use Rattle.moka_rows.specs.Rows.{is_row_of}
use Rattle.moka_rows.proofs.lookup.number_of.Given as goal

abbrev pub invariant-loop-place : goal.invariant-loop-place
invariant-loop-place g l = record {
  counted : l.reads ≡ l.initial.reads + l.place;
  first : find (λ p. is_row_of g.K.PartialEq.eq l.key l.hash p.1) (drop l.place l.rows.rows.now) ≡ find (λ p. is_row_of g.K.PartialEq.eq l.key l.hash p.1) l.rows.rows.now;
}
