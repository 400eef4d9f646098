use Rattle.std.proofs.Common.{Some, refl, sym, ◌∙◌}
use Rattle.moka_model.specs.Turns.{Computed}
use Rattle.moka_turns.specs.declared.table.TurnEnd.TheVariants as ends
use Rattle.moka_turns.proofs.Abandons.{the_turn, abandoned-number, known}
use Rattle.moka_turns.proofs.Changes.{given-there}
use Rattle.moka_turns.proofs.Ends.{ends-table}
use Rattle.moka_turns.proofs.table.TurnTable.finish_computed.Goals as goal

pub returns-clause-finishes : goal.returns-clause-finishes
returns-clause-finishes g c hash_of ts respects hashed sound keeps =
    let eq = g.K.PartialEq.eq in
    let laws = g.met.K.Eq.laws in
    let copies = g.V.Clone.is_clone in
    let q = c.args.turn.key in
    let row = c.end-row.result in
    let there = sym c.end-row.ensures.turn in
    let turn = the_turn eq laws copies hash_of respects ts sound _ _ keeps q hashed row there in
    let number = abandoned-number eq laws copies hash_of respects ts sound _ _ keeps q hashed row there in
    let its = given-there _ _ row there c.requires.1 in
    let named = known eq copies hash_of ts sound _ _ keeps q hashed c.args.turn.number turn.0 turn.1 (number ∙ its) in
    let done = c.end-row.ensures in
    rw named (
      turn.2.shown,
      turn.2.saved,
      ends-table laws copies hash_of respects ts sound c.args.self.now c.end-row.new.self keeps q hashed row there done.opened done.own done.alone (Some ends.Computed) (λ _. refl) done.waited_for Computed refl,
    )
