use Rattle.std.proofs.Common.{◌++◌, [], refl, ap, subst, ◌∙◌}
use Rattle.moka_model.specs.declared.notification.RemovalCause.TheVariants.{Size}
use Rattle.moka_rows.specs.Rows.{row_under, without_row, NumbersDiffer}
use Rattle.moka_rows.proofs.Callers.{absent-before, row_under-at, without_row-at}
use Rattle.moka_housekeeper.specs.Maintain.{notice_for, drops}
use Rattle.moka_housekeeper.proofs.Maintaining.{left-waiting}
use Rattle.moka_housekeeper.proofs.Resuming.{does-one, does-not}
use Rattle.moka_housekeeper.proofs.Sweeping.{queues-are, spent, unspent}
use Rattle.moka_housekeeper.proofs.Verdicts.{first-stored}
use Rattle.moka_housekeeper.proofs.maintain.drop_first.Goals as goal

pub evict-requires : goal.evict-requires
evict-requires g c = first-stored c.args.table.now c.args.number c.requires.first

pub returns-then-not-take_budget-clause-dropped : goal.returns-then-not-take_budget-clause-dropped
returns-then-not-take_budget-clause-dropped g c row rest waited =
    let old = c.args.table.now in
    let stops = unspent c.args.limit.now c.take_budget.new.limit 1 c.take_budget.result c.take_budget.ensures.lets c.take_budget.ensures.rest c.if-not-take_budget.true in
    does-not (notice_for Size) c.args.limit.now (drops old.admitted (c.args.number, row) rest) old c.take_budget.new.limit stops.0 stops.1

pub returns-clause-dropped : goal.returns-clause-dropped
returns-clause-dropped g c row rest waited =
    let old = c.args.table.now in
    let new = c.evict.new.self in
    let yet = spent c.args.limit.now c.take_budget.new.limit 1 c.take_budget.result c.take_budget.ensures.lets c.take_budget.ensures.rest c.if-not-take_budget.false in
    let absent = absent-before c.args.number row old.admitted rest (subst (λ l. NumbersDiffer (old.admitted ++ l)) waited c.requires.apart) in
    let waits = ap (row_under c.args.number) waited ∙ row_under-at c.args.number row [] rest refl in
    let left = left-waiting c.args.number row Size old new c.evict.ensures.rows c.evict.ensures.notices absent waits in
    does-one (notice_for Size) c.args.limit.now (drops old.admitted (c.args.number, row) rest) old c.take_budget.new.limit yet.0 yet.1 new
    (queues-are new old.admitted rest left.0 (left.1 ∙ ap (without_row c.args.number) waited ∙ without_row-at c.args.number row [] rest refl)) left.2
