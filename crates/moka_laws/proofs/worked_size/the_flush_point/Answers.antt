use Rattle.std.proofs.Common.{refl, ap, min, option_map}
use Rattle.moka_model.specs.Numbers.{greatest_number}
use Rattle.moka_laws.specs.Worked.{found, counted}
use Rattle.moka_model.specs.OrderLaws.{keys}
use Rattle.moka_laws.specs.WorkedSize.{all_come, after_65}
use Rattle.moka_laws.proofs.Flushes.{removals-65, orders-65, entry_count-65, live-65}
use Rattle.moka_laws.proofs.worked_size.the_flush_point.Goals as goal

pub returns-clause-left : goal.returns-clause-left
returns-clause-left c = removals-65 (all_come 64) refl refl refl refl after_65 refl

pub returns-clause-admitted : goal.returns-clause-admitted
returns-clause-admitted c = ap (λ q. keys q.admitted) (orders-65 (all_come 64) refl refl refl refl after_65 refl)

pub returns-clause-waiting : goal.returns-clause-waiting
returns-clause-waiting c = ap (λ q. keys q.waiting) (orders-65 (all_come 64) refl refl refl refl after_65 refl)

pub returns-clause-counted : goal.returns-clause-counted
returns-clause-counted c = ap (λ n. counted (min n greatest_number)) (entry_count-65 (all_come 64) refl refl refl refl after_65 refl)

pub returns-clause-found : goal.returns-clause-found
returns-clause-found c = ap (λ o. found (option_map (λ w. w.value) o)) (live-65 (all_come 64) refl refl refl refl after_65 refl)
