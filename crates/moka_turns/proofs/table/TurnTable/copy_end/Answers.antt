use Rattle.std.proofs.Common.{◌≡◌, ◌==◌, ◌&&◌, nat_le, refl, sym, ap, ◌∙◌}
use Rattle.std.proofs.lemmas.Bool.{and_parts, eqb-true}
use Rattle.moka_turns.specs.declared.table.OpenTurn.{OpenTurn}
use Rattle.moka_turns.proofs.Abandons.{the_turn, is_open_now}
use Rattle.moka_turns.proofs.Changes.{given-there}
use Rattle.moka_turns.proofs.Leaves.{passes-there, is_ended_for, its-kinds, awaited, the_ended, kept, no-ticket}
use Rattle.moka_turns.proofs.Copies.{none-there, copied-twice}
use Rattle.moka_turns.proofs.table.TurnTable.copy_end.Goals as goal

pub returns-then-is_awaited : goal.returns-then-is_awaited
returns-then-is_awaited g c hash_of ts respects hashed sound keeps compose =
    let eq = g.K.PartialEq.eq in
    let laws = g.met.K.Eq.laws in
    let copies = g.V.Clone.is_clone in
    let q = c.args.key.now in
    let number = c.args.number in
    let row = passes-there (λ (r : OpenTurn _). r.number == number && nat_le 1 r.unspent) _ _ c.is_awaited.ensures c.if-is_awaited.true in
    let both = and_parts (row.0.number == number) (nat_le 1 row.0.unspent) row.2 in
    let named = awaited eq laws copies hash_of respects ts sound _ _ keeps q hashed number row.0 row.1 (eqb-true row.0.number number both.0) both.1 in
    rw named (rw (none-there _ (is_open_now eq laws copies hash_of respects ts sound _ _ keeps q hashed row.0 row.1)) refl)

pub returns-then-not-is_ended_for : goal.returns-then-not-is_ended_for
returns-then-not-is_ended_for g c hash_of ts respects hashed sound keeps compose =
    let eq = g.K.PartialEq.eq in
    let none = no-ticket eq g.met.K.Eq.laws g.V.Clone.is_clone hash_of respects ts sound _ _ keeps c.args.key.now hashed c.args.number _ c.is_awaited.ensures c.if-is_awaited.false _ (its-kinds eq c.args.key.now _ _ c.is_ended_for.ensures) c.if-not-is_ended_for.true in
    rw none tt

pub returns-in-Ok : goal.returns-in-Ok
returns-in-Ok g c hash_of ts respects hashed sound keeps compose =
    let eq = g.K.PartialEq.eq in
    let laws = g.met.K.Eq.laws in
    let copies = g.V.Clone.is_clone in
    let q = c.args.key.now in
    let number = c.args.number in
    let row = passes-there (is_ended_for eq laws copies hash_of respects ts sound _ _ keeps q hashed number) _ _ (its-kinds eq q _ _ c.is_ended_for.ensures) c.if-not-is_ended_for.false in
    let named = kept eq laws copies hash_of respects ts sound _ _ keeps q hashed number row.0 row.1 row.2 in
    let it = the_ended eq laws copies hash_of respects ts sound _ _ keeps q hashed number row.0 row.1 in
    rw named (copied-twice copies compose _ _ _ it.2.end (given-there _ _ row.0 row.1 c.in-Ok.ensures.copy))
