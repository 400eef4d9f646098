use Rattle.std.proofs.Common.{◌≡◌, ℕ, ◌+◌, ◌-◌, Some, length}
use Rattle.std.specs.Prelude.{slice_get, vec_capacity}
use Rattle.moka_slab.specs.declared.slab_row.Lives.{Lives}
use Rattle.moka_slab.proofs.slab_rows.put.Given as goal

abbrev pub invariant-loop-lives : goal.invariant-loop-lives
invariant-loop-lives l = record {
  others : (k : ℕ) (at : Lives) → slice_get l.fn.lives.items k ≡ Some at → slice_get l.lives.items k ≡ Some at;
  capacity : vec_capacity l.lives ≡ vec_capacity l.fn.lives;
}

abbrev pub decreases-loop-lives : goal.decreases-loop-lives
decreases-loop-lives l = l.place + 1 - length l.lives.items
