use Rattle.std.proofs.Common.{sym, ◌∙◌}
use Rattle.moka_turns.proofs.Abandons.{abandoned-number}
use Rattle.moka_turns.proofs.Changes.{given-there}
use Rattle.moka_turns.proofs.Ends.{ends-table}
use Rattle.moka_turns.proofs.table.TurnTable.finish.Goals as goal

pub returns-clause-finishes : goal.returns-clause-finishes
returns-clause-finishes g c hash_of ts respects hashed sound keeps final copied =
    let eq = g.K.PartialEq.eq in
    let laws = g.met.K.Eq.laws in
    let copies = g.V.Clone.is_clone in
    let row = c.end-opened.result in
    let there = sym c.end-opened.ensures.turn in
    let number = abandoned-number eq laws copies hash_of respects ts sound _ _ keeps c.args.turn.key hashed row there in
    let its = given-there _ _ row there c.requires.1 in
    let done = c.end-opened.ensures in
    rw (← (number ∙ its.0)) (ends-table laws copies hash_of respects ts sound c.args.self.now c.end-opened.new.self keeps c.args.turn.key hashed row there done.opened done.own done.alone c.args.end its.1 done.waited_for final copied)
