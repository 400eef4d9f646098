use Rattle.std.proofs.Common.{◌∙◌, arith}
use Rattle.moka_policy.specs.Policy.{is_lru}
use Rattle.moka_housekeeper.specs.Maintain.{judgements}
use Rattle.moka_housekeeper.proofs.Verdicts.{judging-on, judging-cut}
use Rattle.moka_housekeeper.proofs.Visits.{judging-first}
use Rattle.moka_housekeeper.proofs.maintain.admit_or_drop_all.Goals as goal

pub returns-then-admit_or_drop-clause-judged : goal.returns-then-admit_or_drop-clause-judged
returns-then-admit_or_drop-clause-judged g c =
    let was = c.loop-number.invariant in
    let judged = rw c.if-admit_or_drop.true at c.admit_or_drop.ensures.judged in
    judging-cut (is_lru c.args.policy) (g.F.FrequencySource.count c.args.source.now) c.args.capacity c.loop-number.limit c.admit_or_drop.new.limit judged.0 judged.1 c.loop-number.table c.admit_or_drop.new.table
    c.args.limit.now (judgements (is_lru c.args.policy) (g.F.FrequencySource.count c.args.source.now) c.args.capacity c.args.table.now) c.args.table.now was.resumes judged.2

pub loop-number-preserved : goal.loop-number-preserved
loop-number-preserved g c =
    let was = c.loop-number.invariant in
    let judged = rw c.if-admit_or_drop.false at c.admit_or_drop.ensures.judged in
    let steps = judging-first (is_lru c.args.policy) c.args.capacity (g.F.FrequencySource.count c.args.source.now) c.loop-number.limit c.admit_or_drop.new.limit judged.0 judged.1 c.loop-number.table c.admit_or_drop.new.table judged.2 in
    record {
      room = omega (arith, was.room, c.admit_or_drop.ensures.room);
      may_hide = c.admit_or_drop.ensures.may_hide ∙ was.may_hide;
      resumes = judging-on (is_lru c.args.policy) (g.F.FrequencySource.count c.args.source.now) c.args.capacity c.loop-number.limit c.admit_or_drop.new.limit judged.0 judged.1 c.loop-number.table c.admit_or_drop.new.table
          c.args.limit.now (judgements (is_lru c.args.policy) (g.F.FrequencySource.count c.args.source.now) c.args.capacity c.args.table.now) c.args.table.now was.resumes judged.2;
      visited = omega (arith, was.visited, c.admit_or_drop.ensures.visited, steps);
    }
