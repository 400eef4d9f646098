use Rattle.std.proofs.Common.{◌≡◌, ◌==◌, ◌&&◌, nat_le, refl, sym, ap, ◌∙◌}
use Rattle.std.proofs.lemmas.Bool.{and_parts, eqb-true}
use Rattle.moka_turns.specs.declared.table.OpenTurn.{OpenTurn}
use Rattle.moka_turns.proofs.Abandons.{the_turn, is_open_now}
use Rattle.moka_turns.proofs.Changes.{given-there}
use Rattle.moka_turns.proofs.Leaves.{passes-there, is_ended_for, its-kinds, awaited, the_ended, kept, ended-number, leave-keeps, no-ticket}
use Rattle.moka_turns.proofs.Copies.{none-there, copied-twice, takes-alike}
use Rattle.moka_turns.proofs.table.TurnTable.collect.Goals as goal

pub returns-then-is_awaited-clause-collects : goal.returns-then-is_awaited-clause-collects
returns-then-is_awaited-clause-collects g c hash_of ts respects hashed sound keeps compose =
    let eq = g.K.PartialEq.eq in
    let laws = g.met.K.Eq.laws in
    let copies = g.V.Clone.is_clone in
    let q = c.args.ticket.key in
    let number = c.args.ticket.number in
    let row = passes-there (λ (r : OpenTurn _). r.number == number && nat_le 1 r.unspent) _ _ c.is_awaited.ensures c.if-is_awaited.true in
    let both = and_parts (row.0.number == number) (nat_le 1 row.0.unspent) row.2 in
    let named = awaited eq laws copies hash_of respects ts sound _ _ keeps q hashed number row.0 row.1 (eqb-true row.0.number number both.0) both.1 in
    rw named (none-there _ (is_open_now eq laws copies hash_of respects ts sound _ _ keeps q hashed row.0 row.1))

pub returns-then-not-is_ended_for-clause-collects : goal.returns-then-not-is_ended_for-clause-collects
returns-then-not-is_ended_for-clause-collects g c hash_of ts respects hashed sound keeps compose =
    let eq = g.K.PartialEq.eq in
    let none = no-ticket eq g.met.K.Eq.laws g.V.Clone.is_clone hash_of respects ts sound _ _ keeps c.args.ticket.key hashed c.args.ticket.number _ c.is_awaited.ensures c.if-is_awaited.false _ (its-kinds eq c.args.ticket.key _ _ c.is_ended_for.ensures) c.if-not-is_ended_for.true in
    rw none refl

pub returns-in_default-clause-collects : goal.returns-in_default-clause-collects
returns-in_default-clause-collects g c hash_of ts respects hashed sound keeps compose =
    let eq = g.K.PartialEq.eq in
    let laws = g.met.K.Eq.laws in
    let copies = g.V.Clone.is_clone in
    let q = c.args.ticket.key in
    let number = c.args.ticket.number in
    let row = passes-there (is_ended_for eq laws copies hash_of respects ts sound _ _ keeps q hashed number) _ _ (its-kinds eq q _ _ c.is_ended_for.ensures) c.if-not-is_ended_for.false in
    let named = kept eq laws copies hash_of respects ts sound _ _ keeps q hashed number row.0 row.1 row.2 in
    let it = the_ended eq laws copies hash_of respects ts sound _ _ keeps q hashed number row.0 row.1 in
    rw named (refl, takes-alike copies g.V.Clone.is_infallible _ _ it.2.end (given-there _ _ row.0 row.1 c.in_default.ensures.refused))

pub returns-clause-collects : goal.returns-clause-collects
returns-clause-collects g c hash_of ts respects hashed sound keeps compose =
    let eq = g.K.PartialEq.eq in
    let laws = g.met.K.Eq.laws in
    let copies = g.V.Clone.is_clone in
    let q = c.args.ticket.key in
    let number = c.args.ticket.number in
    let row = passes-there (is_ended_for eq laws copies hash_of respects ts sound _ _ keeps q hashed number) _ _ (its-kinds eq q _ _ c.is_ended_for.ensures) c.if-not-is_ended_for.false in
    let named = kept eq laws copies hash_of respects ts sound _ _ keeps q hashed number row.0 row.1 row.2 in
    let its = ended-number eq laws copies hash_of respects ts sound _ _ keeps q hashed number row.0 row.1 in
    let it = the_ended eq laws copies hash_of respects ts sound _ _ keeps q hashed number row.0 row.1 in
    rw (named, c.spend_ended.ensures.opened, its) (
      copied-twice copies compose _ _ _ it.2.end (given-there _ _ row.0 row.1 c.in-Ok.ensures.copy),
      leave-keeps eq laws copies hash_of respects ts sound _ _ keeps q hashed number row.0 row.1 _ (given-there _ _ row.0 row.1 c.spend_ended.ensures.spent).0,
    )
