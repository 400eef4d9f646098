use Rattle.std.proofs.Common.{length, ap, ◌∙◌, arith}
use Rattle.moka_policy.specs.Policy.{is_lru}
use Rattle.moka_rows.specs.Rows.{living_at}
use Rattle.moka_housekeeper.proofs.Phases.{cut-first, cut-second, cut-third, phases-end, swept-admitted, swept-waiting, shrunk-rows}
use Rattle.moka_housekeeper.proofs.Shown.{shown-left}
use Rattle.moka_housekeeper.proofs.Visits.{visits-parts}
use Rattle.moka_housekeeper.proofs.maintain.maintain_up_to.Goals as goal

pub clear_may_hide-requires : goal.clear_may_hide-requires
clear_may_hide-requires g c =
    let old = c.args.table.now in
    let one = swept-admitted c.args.now c.args.limit old c.evict_dead_admitted.new.table c.evict_dead_admitted.new.limit (rw c.if-evict_dead_admitted.false at c.evict_dead_admitted.ensures.swept) in
    let two = swept-waiting c.args.now c.evict_dead_admitted.new.limit c.evict_dead_admitted.new.table c.sweep_waiting.new.table c.sweep_waiting.new.limit (rw c.if-sweep_waiting.false at c.sweep_waiting.ensures.swept) in
    rw (two.0, two.1, one.0, one.1) (shown-left c.args.now old.admitted old.waiting)

pub returns-then-evict_dead_admitted-clause-maintained : goal.returns-then-evict_dead_admitted-clause-maintained
returns-then-evict_dead_admitted-clause-maintained g c lives dated =
    cut-first lives c.args.now (omega arith) (is_lru c.args.policy) (g.F.FrequencySource.count c.args.source.now) c.args.capacity c.args.limit c.args.table.now dated
    c.evict_dead_admitted.new.table c.evict_dead_admitted.new.limit c.evict_dead_admitted.result c.evict_dead_admitted.ensures.swept c.if-evict_dead_admitted.true

pub returns-then-sweep_waiting-clause-maintained : goal.returns-then-sweep_waiting-clause-maintained
returns-then-sweep_waiting-clause-maintained g c lives dated =
    cut-second lives c.args.now (omega arith) (is_lru c.args.policy) (g.F.FrequencySource.count c.args.source.now) c.args.capacity c.args.limit c.args.table.now dated
    c.evict_dead_admitted.new.table c.evict_dead_admitted.new.limit c.evict_dead_admitted.result c.evict_dead_admitted.ensures.swept c.if-evict_dead_admitted.false
    c.sweep_waiting.new.table c.sweep_waiting.new.limit c.sweep_waiting.result c.sweep_waiting.ensures.swept c.if-sweep_waiting.true

pub returns-then-evict_over_capacity-clause-maintained : goal.returns-then-evict_over_capacity-clause-maintained
returns-then-evict_over_capacity-clause-maintained g c lives dated =
    let same = c.clear_may_hide.ensures.same in
    cut-third lives c.args.now (omega arith) (is_lru c.args.policy) (g.F.FrequencySource.count c.args.source.now) c.args.capacity c.args.limit c.args.table.now dated
    c.evict_dead_admitted.new.table c.evict_dead_admitted.new.limit c.evict_dead_admitted.result c.evict_dead_admitted.ensures.swept c.if-evict_dead_admitted.false
    c.sweep_waiting.new.table c.sweep_waiting.new.limit c.sweep_waiting.result c.sweep_waiting.ensures.swept c.if-sweep_waiting.false
    c.clear_may_hide.new.self same.0 same.1 same.2 c.evict_over_capacity.new.table c.evict_over_capacity.new.limit c.evict_over_capacity.result c.evict_over_capacity.ensures.shrunk c.if-evict_over_capacity.true

pub returns-clause-maintained : goal.returns-clause-maintained
returns-clause-maintained g c lives dated =
    let same = c.clear_may_hide.ensures.same in
    phases-end lives c.args.now (omega arith) (is_lru c.args.policy) (g.F.FrequencySource.count c.args.source.now) c.args.capacity c.args.limit c.args.table.now dated
    c.evict_dead_admitted.new.table c.evict_dead_admitted.new.limit c.evict_dead_admitted.result c.evict_dead_admitted.ensures.swept c.if-evict_dead_admitted.false
    c.sweep_waiting.new.table c.sweep_waiting.new.limit c.sweep_waiting.result c.sweep_waiting.ensures.swept c.if-sweep_waiting.false
    c.clear_may_hide.new.self same.0 same.1 same.2 c.evict_over_capacity.new.table c.evict_over_capacity.new.limit c.evict_over_capacity.result c.evict_over_capacity.ensures.shrunk c.if-evict_over_capacity.false
    c.admit_or_drop_all.new.table c.admit_or_drop_all.new.limit c.admit_or_drop_all.result c.admit_or_drop_all.ensures.judged

pub returns-then-sweep_waiting-clause-visited : goal.returns-then-sweep_waiting-clause-visited
returns-then-sweep_waiting-clause-visited g c =
    let one = swept-admitted c.args.now c.args.limit c.args.table.now c.evict_dead_admitted.new.table c.evict_dead_admitted.new.limit (rw c.if-evict_dead_admitted.false at c.evict_dead_admitted.ensures.swept) in
    omega (arith, c.evict_dead_admitted.ensures.visited, ap length one.1, c.sweep_waiting.ensures.visited)

pub returns-then-evict_over_capacity-clause-visited : goal.returns-then-evict_over_capacity-clause-visited
returns-then-evict_over_capacity-clause-visited g c =
    let one = swept-admitted c.args.now c.args.limit c.args.table.now c.evict_dead_admitted.new.table c.evict_dead_admitted.new.limit (rw c.if-evict_dead_admitted.false at c.evict_dead_admitted.ensures.swept) in
    omega (arith, c.evict_dead_admitted.ensures.visited, ap length one.1, c.sweep_waiting.ensures.visited)

pub returns-clause-visited : goal.returns-clause-visited
returns-clause-visited g c =
    let old = c.args.table.now in
    let shown = c.clear_may_hide.new.self in
    let same = c.clear_may_hide.ensures.same in
    let one = swept-admitted c.args.now c.args.limit old c.evict_dead_admitted.new.table c.evict_dead_admitted.new.limit (rw c.if-evict_dead_admitted.false at c.evict_dead_admitted.ensures.swept) in
    let two = swept-waiting c.args.now c.evict_dead_admitted.new.limit c.evict_dead_admitted.new.table c.sweep_waiting.new.table c.sweep_waiting.new.limit (rw c.if-sweep_waiting.false at c.sweep_waiting.ensures.swept) in
    let three = shrunk-rows c.args.capacity c.sweep_waiting.new.limit shown c.evict_over_capacity.new.table c.evict_over_capacity.new.limit (rw c.if-evict_over_capacity.false at c.evict_over_capacity.ensures.shrunk) in
    let parts = visits-parts (is_lru c.args.policy) c.args.capacity (g.F.FrequencySource.count c.args.source.now) c.args.now old shown c.evict_over_capacity.new.table
    (same.0 ∙ two.0 ∙ one.0) (three.1 ∙ same.1 ∙ two.1 ∙ ap (living_at c.args.now) one.1) three.0 in
    omega (arith, parts, c.evict_dead_admitted.ensures.visited, ap length one.1, c.sweep_waiting.ensures.visited, c.admit_or_drop_all.ensures.visited)
