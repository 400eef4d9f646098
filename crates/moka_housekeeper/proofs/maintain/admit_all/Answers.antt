use Rattle.std.proofs.Common.{true, None, length, ap, ◌∙◌, arith}
use Rattle.moka_housekeeper.specs.Maintain.{judgements}
use Rattle.moka_housekeeper.proofs.Verdicts.{judged-first, judging-on}
use Rattle.moka_housekeeper.proofs.maintain.admit_all.Goals as goal

pub loop-first-preserved : goal.loop-first-preserved
loop-first-preserved g c =
    let was = c.loop-first.invariant in
    record {
      room = omega (arith, was.room, c.admit_first.ensures.room);
      may_hide = c.admit_first.ensures.may_hide ∙ was.may_hide;
      resumes = λ frequency_of. let judged = c.admit_first.ensures.judged frequency_of in
          judging-on true frequency_of c.args.capacity None None judged.0 judged.1 c.loop-first.table c.admit_first.new.table
          None (judgements true frequency_of c.args.capacity c.args.table.now) c.args.table.now (was.resumes frequency_of) judged.2;
    }

pub loop-first-smaller : goal.loop-first-smaller
loop-first-smaller g c =
    let judged = c.admit_first.ensures.judged (λ _. 0) in
    let after = judged-first true (λ _. 0) c.args.capacity None None judged.0 judged.1 c.loop-first.table c.admit_first.new.table judged.2 in
    let before = ap length judged.2.waited in
    let rest = ap length after.0 in
    omega (arith, before, rest)
