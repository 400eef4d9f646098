use Rattle.std.proofs.Common.{◌≡◌, length}
use Rattle.moka_index.specs.Nodes.{Grows}
use Rattle.moka_index.proofs.nodes.grow.Given as goal

abbrev pub invariant-loop-place : goal.invariant-loop-place
invariant-loop-place l = record {
  grown : Grows l.fn.nodes.items l.nodes.items;
  at : length l.nodes.items ≡ l.place;
}
