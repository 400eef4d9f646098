use Rattle.std.proofs.Common.{◌≡◌, ℕ, ◌≤◌, true, None, length}
use Rattle.moka_model.specs.declared.notification.RemovalCause.TheVariants.{Size}
use Rattle.moka_housekeeper.specs.Maintain.{notice_for, judgements}
use Rattle.moka_housekeeper.proofs.Resuming.{Resumes}
use Rattle.moka_housekeeper.proofs.maintain.admit_all.Given as goal

-- what is left to judge is what there was to judge
abbrev pub invariant-loop-first : goal.invariant-loop-first
invariant-loop-first g l = record {
  room : l.fn.table.room ≤ l.table.room;
  may_hide : l.table.may_hide ≡ l.fn.table.may_hide;
  resumes : (frequency_of : ℕ → ℕ) → Resumes (notice_for Size) None (judgements true frequency_of l.capacity l.fn.table) l.fn.table None (judgements true frequency_of l.capacity l.table) l.table;
}

abbrev pub decreases-loop-first : goal.decreases-loop-first
decreases-loop-first g l = length l.table.waiting
