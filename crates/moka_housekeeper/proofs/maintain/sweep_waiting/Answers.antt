use Rattle.std.proofs.Common.{◌≡◌, false, None, [], subst, arith}
use Rattle.moka_rows.proofs.Callers.{all-back}
use Rattle.moka_housekeeper.specs.Maintain.{notice_dead}
use Rattle.moka_housekeeper.proofs.Resuming.{Resumes, resumes-first, resumes-end}
use Rattle.moka_housekeeper.proofs.Spared.{none-waiting}
use Rattle.moka_housekeeper.proofs.Sweeping.{waiting_parts}
use Rattle.moka_housekeeper.proofs.maintain.sweep_waiting.Goals as goal

pub returns-else-may_be_dead-clause-swept : goal.returns-else-may_be_dead-clause-swept
returns-else-may_be_dead-clause-swept g c =
    let table = c.args.table.now in
    let limit = c.args.limit.now in
    let none = c.may_be_dead.ensures c.if-may_be_dead.false in
    let ps = waiting_parts c.args.now table.admitted [] table.waiting in
    resumes-end notice_dead limit ps table limit table
    (subst (λ l. Resumes notice_dead limit ps table limit l table)
    (none-waiting c.args.now table.admitted [] table.waiting
    (all-back (λ p. p.1.info.is_hidden ≡ false) table.admitted table.waiting none.0)
    (all-back (λ p. p.1.info.deadline ≡ None) table.admitted table.waiting none.1))
    (resumes-first notice_dead limit ps table))
