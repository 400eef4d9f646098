use Rattle.std.proofs.Common.{◌+◌, refl, sym, ap, ◌∙◌, subst}
use Rattle.std.proofs.lemmas.Map.Steps.{set_value_same}
use Rattle.indexmap.specs.IndexMap.{get}
use Rattle.moka_model.specs.Turns.{Waited, moved, waited_for}
use Rattle.moka_turns.specs.Represents.{Represents}
use Rattle.moka_turns.specs.Table.{with_unspent}
use Rattle.moka_turns.specs.TurnKey.{table_key_eq}
use Rattle.moka_turns.specs.TurnTable.{ended_at}
use Rattle.moka_turns.proofs.Abandons.{by_kinds, abandoned-number}
use Rattle.moka_turns.proofs.Changes.{change-keeps}
use Rattle.moka_turns.proofs.table.TurnTable.wait.Goals as goal

pub returns-then-turn-clause-unchanged : goal.returns-then-turn-clause-unchanged
returns-then-turn-clause-unchanged g c =
    ((c.get_mut.follows.holds c.in_ok-turn.turn.now).0 ∙ set_value_same _ c.args.self.now.opened.entries c.in_ok-turn.turn.now (sym c.in_ok-turn.ensures.value), refl)

pub returns-clause-represents : goal.returns-clause-represents
returns-clause-represents g c hash_of ts respects hashed sound keeps =
    let eq = g.K.PartialEq.eq in
    let laws = g.met.K.Eq.laws in
    let copies = g.V.Clone.is_clone in
    let q = c.args.key.now in
    let row = c.in_ok-turn.turn.now in
    let there = sym c.in_ok-turn.ensures.value in
    let more = with_unspent (row.unspent + 1) row in
    let its = abandoned-number eq laws copies hash_of respects ts sound _ _ keeps q hashed row there in
    subst (λ n. Represents eq copies hash_of (moved (Waited n) ts) (get (table_key_eq eq) (c.get_mut.follows.lender more)) (ended_at c.args.self.now)) its
    (change-keeps eq laws copies hash_of respects ts sound _ _ keeps q hashed row there _ waited_for (λ u. refl) (λ u. refl) more
    (λ u is. record { number = is.number; shown = is.shown; saved = is.saved; unspent = ap (λ n. n + 1) is.unspent })
    (λ p. by_kinds eq q p _ _ _ (((c.get_mut.follows.holds more).3 c.requires).0 p)))
