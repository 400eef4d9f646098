use Rattle.std.proofs.Common.{◌≡◌, ◌-◌, Bool, ◌==◌, ◌&&◌, nat_eq, nat_le, refl, sym, ap, ◌∙◌, subst}
use Rattle.std.specs.Arc.{arc_value}
use Rattle.indexmap.specs.IndexMap.{get}
use Rattle.std.proofs.lemmas.Bool.{and_parts, eqb-true}
use Rattle.moka_model.specs.Turns.{numbered, spent}
use Rattle.moka_turns.specs.Represents.{Represents}
use Rattle.moka_turns.specs.Table.{with_unspent}
use Rattle.moka_turns.specs.declared.table.OpenTurn.{OpenTurn}
use Rattle.moka_turns.specs.declared.table.EndedTurn.{EndedTurn}
use Rattle.moka_turns.proofs.Abandons.{by_kinds, abandoned-number}
use Rattle.moka_turns.proofs.Changes.{given-there, change-keeps}
use Rattle.moka_turns.proofs.Leaves.{TellsOf, passes-there, is_awaited, is_ended_for, its-kinds, awaited, the_ended, kept, ended-number, leave-keeps, no-ticket}
use Rattle.moka_turns.proofs.table.TurnTable.leave.Goals as goal

pub returns-then-is_awaited-clause-leaves : goal.returns-then-is_awaited-clause-leaves
returns-then-is_awaited-clause-leaves g c hash_of ts respects hashed sound keeps =
    let eq = g.K.PartialEq.eq in
    let laws = g.met.K.Eq.laws in
    let copies = g.V.Clone.is_clone in
    let q = c.args.ticket.key in
    let number = c.args.ticket.number in
    let row = passes-there (λ (r : OpenTurn _). r.number == number && nat_le 1 r.unspent) _ _ c.is_awaited.ensures c.if-is_awaited.true in
    let both = and_parts (row.0.number == number) (nat_le 1 row.0.unspent) row.2 in
    let named = awaited eq laws copies hash_of respects ts sound _ _ keeps q hashed number row.0 row.1 (eqb-true row.0.number number both.0) both.1 in
    rw (named, c.leave_open.ensures.ended) (
      refl,
      change-keeps eq laws copies hash_of respects ts sound _ _ keeps q hashed row.0 row.1 _ spent (λ u. refl) (λ u. refl) (with_unspent (row.0.unspent - 1) row.0)
          (λ u is. record { number = is.number; shown = is.shown; saved = is.saved; unspent = ap (λ n. n - 1) is.unspent })
          (λ p. by_kinds eq q p _ _ _ ((given-there _ _ row.0 row.1 c.leave_open.ensures.spent).0 p)),
    )

pub returns-then-is_ended_for-clause-leaves : goal.returns-then-is_ended_for-clause-leaves
returns-then-is_ended_for-clause-leaves g c hash_of ts respects hashed sound keeps =
    let eq = g.K.PartialEq.eq in
    let laws = g.met.K.Eq.laws in
    let copies = g.V.Clone.is_clone in
    let q = c.args.ticket.key in
    let number = c.args.ticket.number in
    let row = passes-there (is_ended_for eq laws copies hash_of respects ts sound _ _ keeps q hashed number) _ _ (its-kinds eq q _ _ c.is_ended_for.ensures) c.if-is_ended_for.true in
    let named = kept eq laws copies hash_of respects ts sound _ _ keeps q hashed number row.0 row.1 row.2 in
    let its = ended-number eq laws copies hash_of respects ts sound _ _ keeps q hashed number row.0 row.1 in
    rw (named, c.spend_ended.ensures.opened, its) (
      refl,
      leave-keeps eq laws copies hash_of respects ts sound _ _ keeps q hashed number row.0 row.1 _ (given-there _ _ row.0 row.1 c.spend_ended.ensures.spent).0,
    )

pub returns-clause-leaves : goal.returns-clause-leaves
returns-clause-leaves g c hash_of ts respects hashed sound keeps =
    let eq = g.K.PartialEq.eq in
    let none = no-ticket eq g.met.K.Eq.laws g.V.Clone.is_clone hash_of respects ts sound _ _ keeps c.args.ticket.key hashed c.args.ticket.number _ c.is_awaited.ensures c.if-is_awaited.false _ (its-kinds eq c.args.ticket.key _ _ c.is_ended_for.ensures) c.if-is_ended_for.false in
    rw none refl
