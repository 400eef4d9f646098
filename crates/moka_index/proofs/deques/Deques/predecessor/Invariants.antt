use Rattle.std.proofs.Common.{◌≡◌, ◌≢◌, ℕ, List, ◌++◌, Some, length}
use Rattle.moka_index.specs.Paths.{IsAmong}
use Rattle.moka_index.specs.Nodes.{row_of}
use Rattle.moka_index.specs.Deques.{same_in, chain_from, EndsFrom}
use Rattle.moka_index.proofs.deques.Deques.predecessor.Given as goal

abbrev pub invariant-loop-next : goal.invariant-loop-next
invariant-loop-next l = record {
  split : (front : List ℕ) × (chain_from l.fn.self (Some l.fn.first) ≡ front ++ chain_from l.fn.self (Some l.at));
  linked : EndsFrom l.fn.self l.at;
  within : IsAmong l.fn.number (chain_from l.fn.self (Some l.at));
  later : l.at ≢ l.fn.number;
  same : row_of l.next ≡ same_in l.fn.self l.at;
}

abbrev pub decreases-loop-next : goal.decreases-loop-next
decreases-loop-next l = length (chain_from l.fn.self (Some l.at))
