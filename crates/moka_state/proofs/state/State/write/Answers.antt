use Rattle.std.proofs.Common.{◌≡◌, ℕ, ◌==◌, true, Option, Some, None, ◌∙◌, ap, sym, refl}
use Rattle.std.specs.Option.{option_eq}
use Rattle.std.proofs.lemmas.Bool.{true≢false}
use Rattle.moka_model.specs.Lives.{Settings}
use Rattle.moka_model.specs.Numbers.{stores_nothing}
use Rattle.moka_state.proofs.Becoming.{becomes-passed}
use Rattle.moka_model.specs.Steps.{events_in}
use Rattle.moka_model.specs.Calls.{Insert}
use Rattle.moka_model.proofs.Callers.{view-of, stands-after}
use Rattle.moka_state.proofs.Finishes.{never-replaced}
use Rattle.moka_state.proofs.Inserts.{view-nothing}
use Rattle.moka_state.proofs.state.State.write.Goals as goal

-- a capacity of 0 is that at which nothing is stored
nothing-at : (capacity : Option ℕ) → true ≡ option_eq (λ a b. a == b) capacity (Some 0) → stores_nothing capacity ≡ true
nothing-at None e = cc
nothing-at (Some capacity) e = sym e

pub returns-then-eq-clause-replaces : goal.returns-then-eq-clause-replaces
returns-then-eq-clause-replaces g c given steps stands =
    let s = c.self.inside in
    let there = rw (← c.self.view_is) at stands in
    let nothing = ap (λ (t : Settings _ _). stores_nothing t.max_capacity) (sym there.settings) ∙ nothing-at s.housekeeper.max_capacity c.if-eq.ensures in
    sym (never-replaced g.K.PartialEq.eq given nothing steps there.legal (g.S.IntoArc.key_of c.args.key) c.args.now)

pub returns-then-eq-clause-ends : goal.returns-then-eq-clause-ends
returns-then-eq-clause-ends g c =
    let s = c.self.inside in
    let nothing = nothing-at s.housekeeper.max_capacity c.if-eq.ensures in
    rw (← c.self.view_is, c.max-self-inside.ensures, c.discard_key.ensures) (record {
      stands = λ given steps stands.
          stands-after g.K.PartialEq.eq given _ steps stands (Insert (g.S.IntoArc.key_of c.args.key) c.args.value c.args.now) _ _ refl
          (view-nothing g.K.PartialEq.eq g.met.K.Eq.laws given _ (events_in steps) (view-of g.K.PartialEq.eq given _ steps stands) _ (g.S.IntoArc.key_of c.args.key) c.args.value c.args.now nothing
          (becomes-passed g.K.PartialEq.eq _ s.table _ s.latest s.next_number c.args.now));
      refused = tt;
      key_back = tt;
      value_back = tt;
      cause = tt;
      numbers = (λ no. absurd no, λ out. absurd (true≢false (sym nothing ∙ out.0)));
      nothing = λ _. refl;
    })
