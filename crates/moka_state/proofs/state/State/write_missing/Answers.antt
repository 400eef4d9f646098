use Rattle.std.proofs.Common.{◌≡◌, ℕ, ◌==◌, ◌∙◌, true, Option, Some, None, sym, ap}
use Rattle.std.specs.Arc.{arc_value}
use Rattle.std.specs.Option.{option_eq}
use Rattle.moka_model.specs.Entries.{entry_of}
use Rattle.moka_model.specs.Lives.{Settings}
use Rattle.moka_model.specs.Numbers.{stores_nothing}
use Rattle.moka_model.specs.StandsFor.{Books}
use Rattle.moka_state.proofs.Becoming.{estimates-noted}
use Rattle.moka_state.proofs.OrInserts.{or-left, or-stands, or-written, view-passed}
use Rattle.moka_state.proofs.state.State.write_missing.Goals as goal

-- a capacity of 0 is that at which nothing is stored
nothing-at : (capacity : Option ℕ) → true ≡ option_eq (λ a b. a == b) capacity (Some 0) → stores_nothing capacity ≡ true
nothing-at None e = cc
nothing-at (Some capacity) e = sym e

pub returns-then-eq-clause-ends : goal.returns-then-eq-clause-ends
returns-then-eq-clause-ends g c missing =
    let s = c.self.inside in
    let eq = g.K.PartialEq.eq in
    let laws = g.met.K.Eq.laws in
    let key = arc_value c.args.key.now in
    let nothing = nothing-at s.housekeeper.max_capacity c.if-eq.ensures in
    let hash = rw (← c.self.view_is) at c.requires.hash in
    let notes = estimates-noted g.C.Frequency.FrequencySource.noted g.C.Frequency.FrequencySource.count s.housekeeper.source c.note.new.self c.args.hash _ c.note.ensures hash in
    record {
      reply = λ given steps stands.
          let there = rw (← c.self.view_is) at stands in
          let none = missing given steps stands in
          let left = or-left eq g.V.Clone.is_clone g.V.Clone.is_infallible given steps key c.args.value c.args.now none s.housekeeper.max_capacity s.next_number (ap (λ (t : Settings _ _). t.max_capacity) there.settings) (ap (λ (b : Books _ _). b.next_number) there.books) (sym (rw (← c.self.view_is) at c.wants_number.ensures) ∙ c.if-wants_number.false) in
          or-written eq g.V.Clone.is_clone g.V.Clone.is_infallible given steps key c.args.value c.args.now none (entry_of c.in-Ok.entry) c.in-Ok.ensures left;
      stands = λ given steps stands.
          let there = rw (← c.self.view_is) at stands in
          let none = missing given steps stands in
          rw c.max-self-inside.ensures (or-stands eq g.V.Clone.is_clone g.V.Clone.is_infallible given steps key c.args.value c.args.now none _ _ there _ (view-passed eq laws _ s.table _ _ s.latest s.next_number given steps there key c.args.now none notes c.args.value nothing));
      refused = tt;
    }
