use Rattle.std.proofs.Common.{◌≡◌, ◌+◌, ◌≤◌, length}
use Rattle.moka_model.specs.declared.notification.RemovalCause.TheVariants.{Size}
use Rattle.moka_policy.specs.Policy.{is_lru}
use Rattle.moka_housekeeper.specs.Maintain.{notice_for, judgements}
use Rattle.moka_housekeeper.specs.Visits.{visits_judging}
use Rattle.moka_housekeeper.proofs.Resuming.{Resumes}
use Rattle.moka_housekeeper.proofs.maintain.admit_or_drop_all.Given as goal

-- what is left to judge, within what is left of the limit, is what there was to judge
abbrev pub invariant-loop-number : goal.invariant-loop-number
invariant-loop-number g l = record {
  room : l.fn.table.room ≤ l.table.room;
  may_hide : l.table.may_hide ≡ l.fn.table.may_hide;
  resumes : Resumes (notice_for Size) l.fn.limit (judgements (is_lru l.policy) (g.F.FrequencySource.count l.source) l.capacity l.fn.table) l.fn.table l.limit (judgements (is_lru l.policy) (g.F.FrequencySource.count l.source) l.capacity l.table) l.table;
  visited : l.visits + visits_judging (is_lru l.policy) (g.F.FrequencySource.count l.source) l.capacity l.table.admitted l.table.waiting
      ≤ l.fn.visits + visits_judging (is_lru l.policy) (g.F.FrequencySource.count l.source) l.capacity l.fn.table.admitted l.fn.table.waiting;
}

abbrev pub decreases-loop-number : goal.decreases-loop-number
decreases-loop-number g l = length l.table.waiting
