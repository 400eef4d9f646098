use Rattle.std.proofs.Common.{ℕ, List}
use Rattle.moka_slab.proofs.Walks.{Walks}
use Rattle.moka_slab.proofs.slab_rows.SlabRows.walk_to_expired.Given as goal

-- So many admitted rows were passed, and none is expired.
abbrev pub invariant-loop : goal.invariant-loop
invariant-loop g l = (passed : List ℕ) × (rest : List ℕ) × Walks l.self.rows l.self.links l.now l.cursor l.counter passed rest
