use Rattle.std.proofs.Common.{false, true, sym, ap, ◌∙◌, take, drop, ◌++◌, arith}
use Rattle.std.proofs.lemmas.Bool.{true≢false, eq-eqb, ne_eqb}
use Rattle.moka_model.proofs.Callers.{front-le, admitting, dropping}
use Rattle.moka_policy.specs.Policy.{is_lru}
use Rattle.moka_model.specs.declared.notification.RemovalCause.TheVariants.{Size}
use Rattle.moka_table.specs.Table.{weight_of}
use Rattle.moka_housekeeper.specs.Maintain.{notices_for, lets_leave, limit_less}
use Rattle.moka_housekeeper.proofs.Verdicts.{first-stored, judges-by, admits-does, admits-not, admits-none, admits-won, drops-heavy, drops-lost}
use Rattle.moka_model.specs.Maintenance.{front}
use Rattle.moka_housekeeper.proofs.Sweeping.{spent, unspent}
use Rattle.moka_housekeeper.proofs.Visits.{visits-alone}
use Rattle.moka_housekeeper.proofs.maintain.admit_or_drop.Goals as goal
use Rattle.moka_housekeeper.proofs.maintain.admit_or_drop.Goals.{then-count-eq0, else-count-eq0}

pub row-requires : goal.row-requires
row-requires g c = first-stored c.args.table.now c.args.number c.requires.first

pub hash-requires : goal.hash-requires
hash-requires g c = first-stored c.args.table.now c.args.number c.requires.first

pub wins-requires : goal.wins-requires
wins-requires g c = omega (arith, (rw c.info-weight.ensures at c.victims-count.ensures.count), front-le weight_of c.args.capacity c.row.result.info.policy_weight c.args.table.now.admitted)

pub evict_first-requires : goal.evict_first-requires
evict_first-requires g c = omega (arith, (rw c.info-weight.ensures at c.victims-count.ensures.count), front-le weight_of c.args.capacity c.row.result.info.policy_weight c.args.table.now.admitted)

pub returns-else-not-take_budget-clause-judged : goal.returns-else-not-take_budget-clause-judged
returns-else-not-take_budget-clause-judged g c =
    let old = c.args.table.now in
    let row = c.row.result in
    let count = rw c.info-weight.ensures at c.victims-count.ensures.count in
    let alone = rw c.info-weight.ensures at (sym c.fits.ensures ∙ c.if-not-fits.false) in
    let yet = spent c.args.limit.now c.take_budget.new.limit c.victims-count.result c.take_budget.result c.take_budget.ensures.lets c.take_budget.ensures.rest c.if-not-take_budget.false in
    judges-by (is_lru c.args.policy) (g.F.FrequencySource.count c.args.source.now) c.args.capacity old c.admit.new.self c.args.number row c.args.limit.now c.take_budget.new.limit false c.requires.apart c.requires.first c.row.ensures
    (λ rest. admitting (front weight_of c.args.capacity row.info.policy_weight old.admitted) old.admitted (c.args.number, row) rest)
    (elim c.if-count-eq0.branch [
      | then-count-eq0 w ↦ λ rest. admits-none (is_lru c.args.policy) (g.F.FrequencySource.count c.args.source.now) c.args.capacity old.admitted c.args.number row rest alone c.victims-count.result count (sym w.value-is ∙ c.if-wins.true)
      | else-count-eq0 w ↦ λ rest. admits-won (is_lru c.args.policy) (g.F.FrequencySource.count c.args.source.now) c.args.capacity old.admitted c.args.number row rest alone c.victims-count.result count w.wins.result (rw (rw c.row.ensures at w.hash.ensures) at w.wins.ensures.wins) (sym w.value-is ∙ c.if-wins.true)
    ])
    (λ rest waited. admits-does (is_lru c.args.policy) (g.F.FrequencySource.count c.args.source.now) c.args.capacity old c.admit.new.self c.args.number row c.args.limit.now c.take_budget.new.limit false c.requires.apart c.requires.first c.row.ensures rest waited
    c.evict_first.new.table
    (c.evict_first.ensures.admitted ∙ ap (λ k. drop k old.admitted) count)
    c.evict_first.ensures.waiting
    (c.evict_first.ensures.notices ∙ ap (λ k. old.notices ++ notices_for Size (take k old.admitted)) count)
    c.admit.ensures.waiting c.admit.ensures.admitted c.admit.ensures.notices
    (ap (lets_leave c.args.limit.now) (sym count) ∙ yet.0) (yet.1 ∙ ap (limit_less c.args.limit.now) count))

pub returns-then-not-take_budget-clause-judged : goal.returns-then-not-take_budget-clause-judged
returns-then-not-take_budget-clause-judged g c =
    let old = c.args.table.now in
    let row = c.row.result in
    let count = rw c.info-weight.ensures at c.victims-count.ensures.count in
    let alone = rw c.info-weight.ensures at (sym c.fits.ensures ∙ c.if-not-fits.false) in
    let stops = unspent c.args.limit.now c.take_budget.new.limit c.victims-count.result c.take_budget.result c.take_budget.ensures.lets c.take_budget.ensures.rest c.if-not-take_budget.true in
    judges-by (is_lru c.args.policy) (g.F.FrequencySource.count c.args.source.now) c.args.capacity old old c.args.number row c.args.limit.now c.take_budget.new.limit true c.requires.apart c.requires.first c.row.ensures
    (λ rest. admitting (front weight_of c.args.capacity row.info.policy_weight old.admitted) old.admitted (c.args.number, row) rest)
    (elim c.if-count-eq0.branch [
      | then-count-eq0 w ↦ λ rest. admits-none (is_lru c.args.policy) (g.F.FrequencySource.count c.args.source.now) c.args.capacity old.admitted c.args.number row rest alone c.victims-count.result count (sym w.value-is ∙ c.if-wins.true)
      | else-count-eq0 w ↦ λ rest. admits-won (is_lru c.args.policy) (g.F.FrequencySource.count c.args.source.now) c.args.capacity old.admitted c.args.number row rest alone c.victims-count.result count w.wins.result (rw (rw c.row.ensures at w.hash.ensures) at w.wins.ensures.wins) (sym w.value-is ∙ c.if-wins.true)
    ])
    (λ rest waited. admits-not (is_lru c.args.policy) (g.F.FrequencySource.count c.args.source.now) c.args.capacity old old c.args.number row c.args.limit.now c.take_budget.new.limit true c.requires.apart c.requires.first c.row.ensures rest
    (ap (lets_leave c.args.limit.now) (sym count) ∙ stops.0) stops.1)

pub returns-then-not-fits-clause-judged : goal.returns-then-not-fits-clause-judged
returns-then-not-fits-clause-judged g c =
    let old = c.args.table.now in
    let row = c.row.result in
    judges-by (is_lru c.args.policy) (g.F.FrequencySource.count c.args.source.now) c.args.capacity old c.drop_first.new.table c.args.number row c.args.limit.now c.drop_first.new.limit c.drop_first.result c.requires.apart c.requires.first c.row.ensures
    (λ rest. dropping old.admitted (c.args.number, row) rest)
    (λ rest. drops-heavy (is_lru c.args.policy) (g.F.FrequencySource.count c.args.source.now) c.args.capacity old.admitted c.args.number row rest (rw c.info-weight.ensures at (sym c.fits.ensures ∙ c.if-not-fits.true)))
    (λ rest waited. c.drop_first.ensures.dropped row rest waited)

pub returns-else-wins-clause-judged : goal.returns-else-wins-clause-judged
returns-else-wins-clause-judged g c =
    let old = c.args.table.now in
    let row = c.row.result in
    let count = rw c.info-weight.ensures at c.victims-count.ensures.count in
    let alone = rw c.info-weight.ensures at (sym c.fits.ensures ∙ c.if-not-fits.false) in
    judges-by (is_lru c.args.policy) (g.F.FrequencySource.count c.args.source.now) c.args.capacity old c.drop_first-else-wins.new.table c.args.number row c.args.limit.now c.drop_first-else-wins.new.limit c.drop_first-else-wins.result c.requires.apart c.requires.first c.row.ensures
    (λ rest. dropping old.admitted (c.args.number, row) rest)
    (elim c.if-count-eq0.branch [
      | then-count-eq0 w ↦ λ rest. absurd (true≢false (sym (eq-eqb c.victims-count.result 0 w.if-count-eq0.true) ∙ sym w.value-is ∙ c.if-wins.false))
      | else-count-eq0 w ↦ λ rest. drops-lost (is_lru c.args.policy) (g.F.FrequencySource.count c.args.source.now) c.args.capacity old.admitted c.args.number row rest alone c.victims-count.result count (ne_eqb c.victims-count.result 0 w.if-count-eq0.false) w.wins.result (rw (rw c.row.ensures at w.hash.ensures) at w.wins.ensures.wins) (sym w.value-is ∙ c.if-wins.false)
    ])
    (λ rest waited. c.drop_first-else-wins.ensures.dropped row rest waited)

pub returns-else-not-take_budget-clause-visited : goal.returns-else-not-take_budget-clause-visited
returns-else-not-take_budget-clause-visited g c =
    let alone = visits-alone (is_lru c.args.policy) c.args.capacity c.args.table.now c.args.number c.row.result c.requires.apart c.requires.first c.row.ensures
    (rw c.info-weight.ensures at (sym c.fits.ensures ∙ c.if-not-fits.false)) c.victims-count.result (rw c.info-weight.ensures at c.victims-count.ensures.count) in
    elim c.if-count-eq0.branch [
      | then-count-eq0 w ↦ omega (arith, alone, (rw c.info-weight.ensures at c.victims-count.ensures.visited))
      | else-count-eq0 w ↦ omega (arith, alone, (rw c.info-weight.ensures at c.victims-count.ensures.visited), w.wins.ensures.visited)
    ]

pub returns-then-not-take_budget-clause-visited : goal.returns-then-not-take_budget-clause-visited
returns-then-not-take_budget-clause-visited g c =
    let alone = visits-alone (is_lru c.args.policy) c.args.capacity c.args.table.now c.args.number c.row.result c.requires.apart c.requires.first c.row.ensures
    (rw c.info-weight.ensures at (sym c.fits.ensures ∙ c.if-not-fits.false)) c.victims-count.result (rw c.info-weight.ensures at c.victims-count.ensures.count) in
    elim c.if-count-eq0.branch [
      | then-count-eq0 w ↦ omega (arith, alone, (rw c.info-weight.ensures at c.victims-count.ensures.visited))
      | else-count-eq0 w ↦ omega (arith, alone, (rw c.info-weight.ensures at c.victims-count.ensures.visited), w.wins.ensures.visited)
    ]

pub returns-else-wins-clause-visited : goal.returns-else-wins-clause-visited
returns-else-wins-clause-visited g c =
    let alone = visits-alone (is_lru c.args.policy) c.args.capacity c.args.table.now c.args.number c.row.result c.requires.apart c.requires.first c.row.ensures
    (rw c.info-weight.ensures at (sym c.fits.ensures ∙ c.if-not-fits.false)) c.victims-count.result (rw c.info-weight.ensures at c.victims-count.ensures.count) in
    elim c.if-count-eq0.branch [
      | then-count-eq0 w ↦ omega (arith, alone, (rw c.info-weight.ensures at c.victims-count.ensures.visited))
      | else-count-eq0 w ↦ omega (arith, alone, (rw c.info-weight.ensures at c.victims-count.ensures.visited), w.wins.ensures.visited)
    ]
