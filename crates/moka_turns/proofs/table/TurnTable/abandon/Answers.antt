use Rattle.std.proofs.Common.{Some, refl, sym, ◌∙◌}
use Rattle.moka_model.specs.Turns.{Abandoned}
use Rattle.moka_turns.specs.declared.table.TurnEnd.TheVariants as ends
use Rattle.moka_turns.proofs.Abandons.{other-number, own-number, the_turn, abandoned-number, unknown, known}
use Rattle.moka_turns.proofs.Ends.{ends-table}
use Rattle.moka_turns.proofs.table.TurnTable.abandon.Goals as goal

pub returns-then-not-is_open-clause-abandons : goal.returns-then-not-is_open-clause-abandons
returns-then-not-is_open-clause-abandons g c hash_of ts respects hashed sound keeps =
    let none = unknown g.K.PartialEq.eq g.V.Clone.is_clone hash_of ts sound _ _ keeps c.args.turn.key hashed c.args.turn.number (other-number c.args.turn.number _ c.is_open.result c.is_open.ensures c.if-not-is_open.true) in
    rw none refl

pub returns-clause-abandons : goal.returns-clause-abandons
returns-clause-abandons g c hash_of ts respects hashed sound keeps =
    let eq = g.K.PartialEq.eq in
    let laws = g.met.K.Eq.laws in
    let copies = g.V.Clone.is_clone in
    let q = c.args.turn.key in
    let row = c.end-ended.result in
    let there = sym c.end-ended.ensures.turn in
    let turn = the_turn eq laws copies hash_of respects ts sound _ _ keeps q hashed row there in
    let number = abandoned-number eq laws copies hash_of respects ts sound _ _ keeps q hashed row there in
    let its = own-number c.args.turn.number _ c.is_open.result c.is_open.ensures c.if-not-is_open.false row there in
    let named = known eq copies hash_of ts sound _ _ keeps q hashed c.args.turn.number turn.0 turn.1 (number ∙ its) in
    let done = c.end-ended.ensures in
    rw named (refl, ends-table laws copies hash_of respects ts sound c.args.self.now c.end-ended.new.self keeps q hashed row there done.opened done.own done.alone (Some ends.Abandoned) (λ _. refl) done.waited_for Abandoned refl)
