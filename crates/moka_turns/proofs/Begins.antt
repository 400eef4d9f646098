-- The result of beginning a turn, by what a lookup in the table finds.
use Rattle.std.proofs.Common.{◌≡◌, ◌≢◌, ℕ, ◌<◌, ◌==◌, ◌^◌, ◌-◌, Bool, true, false, Option, Some, None, IsSome, is_some, List, refl, sym, ap, ◌∙◌, subst, arith}
use Rattle.std.specs.Arc.{arc_value}
use Rattle.std.specs.Option.{MatchOption}
use Rattle.std.specs.Prelude.{Result, Ok}
use Rattle.std.specs.Cmp.{IsEquivalence}
use Rattle.std.proofs.lemmas.Bool.{eqb-true}
use Rattle.moka_model.specs.Turns.{Turn, Opened, Waited, moved, is_open_for, is_open_as, found}
use Rattle.moka_model.specs.Numbers.{greatest_number}
use Rattle.moka_policy.specs.declared.policy.Refused.{Refused}
use Rattle.moka_turns.specs.declared.turn_key.TurnKey.{TurnKey}
use Rattle.moka_turns.specs.declared.table.OpenTurn.{OpenTurn}
use Rattle.moka_turns.specs.declared.table.EndedTurn.{EndedTurn}
use Rattle.moka_turns.specs.declared.begin.TurnBegun.{TurnBegun}
use Rattle.moka_turns.specs.declared.begin.TurnBegun.TheVariants.{Run, Wait}
use Rattle.moka_turns.specs.declared.handles.Turn as turn_handles
use Rattle.moka_turns.specs.Handles.{turn_name}
use Rattle.moka_turns.specs.Represents.{name_of, IsOpenRow, Represents, AreSound}
use Rattle.moka_turns.specs.Begun.{IsBegun}
use Rattle.moka_turns.proofs.Abandons.{the_turn, unknown, known}
use Rattle.moka_turns.proofs.Opens.{none-agree}

-- an absent value is not present
pub nobody : {A : Type 0} (o : Option A) → o ≡ None → IsSome o → ⊥
nobody None is some = let off : false ≡ true = some in cc
nobody (Some x) is some = cc

-- two results of one lookup have the same number
pub same-there : {V : Type 0} (o : Option (OpenTurn V)) (row other : OpenTurn V) → o ≡ Some row → o ≡ Some other → row.number ≡ other.number
same-there {V} o row other is there = let e : row ≡ other = cc in ap (λ (r : OpenTurn V). r.number) e

module _ {K V E : Type 0} (eq : K → K → Bool) (laws : IsEquivalence eq) (is_clone : V → V → Type 0) (hash_of : K → ℕ) (respects : (a b : K) → eq a b ≡ true → hash_of a ≡ hash_of b)
    (ts : List (Turn K V E)) (sound : AreSound eq ts) (opened : TurnKey K → Option (OpenTurn V)) (ended : ℕ → Option (EndedTurn K V E))
    (keeps : Represents eq is_clone hash_of ts opened ended) (q : TurnKey K) (hashed : q.hash ≡ hash_of (arc_value q.key)) where
  module _ (After : List (Turn K V E) → Type 0) (number : ℕ) (may_wait : Bool) (result : Result (TurnBegun K) Refused) where
    abbrev Begun : Option (Turn K V E) → Type 0
    Begun o = IsBegun After q number may_wait ts o result

    -- if a turn is open
    pub by-open : (row : OpenTurn V) → opened q ≡ Some row → ((t : Turn K V E) → IsOpenRow eq is_clone t row → Begun (Some t)) → Begun (found (is_open_for eq q.kind (arc_value q.key)) ts)
    by-open row there told =
        let it = the_turn eq laws is_clone hash_of respects ts sound opened ended keeps q hashed row there in
        subst Begun (sym it.1) (told it.0 it.2)

    -- and if none is
    pub by-none : opened q ≡ None → Begun None → Begun (found (is_open_for eq q.kind (arc_value q.key)) ts)
    by-none absent told =
        let none = none-agree (IsOpenRow eq is_clone) (found (is_open_for eq q.kind (arc_value q.key)) ts) (opened q) (keeps.opened_is q hashed) absent in
        subst Begun (sym none) told

  module _ (new_open : TurnKey K → Option (OpenTurn V)) (new_ended : ℕ → Option (EndedTurn K V E)) (number : ℕ) (may_wait : Bool) where
    abbrev After : List (Turn K V E) → Type 0
    After after = Represents eq is_clone hash_of after new_open new_ended

    -- a ticket of the open turn is given out
    pub waits : (row : OpenTurn V) → opened q ≡ Some row → (own : ℕ) → (row.number ≡ own) × (row.unspent < 2 ^ 64 - 1) → may_wait ≡ true → After (moved (Waited own) ts)
        → IsBegun After q number may_wait ts (found (is_open_for eq q.kind (arc_value q.key)) ts) (Ok (Wait (record { key = q; number = own })))
    waits row there own is may after =
        by-open After number may_wait (Ok (Wait (record { key = q; number = own }))) row there
        (λ t its. (may, ap (name_of q) (sym is.0 ∙ its.number), λ full. absurd (omega (arith, is.1, its.unspent, full)), subst (λ n. After (moved (Waited n) ts)) (sym is.0 ∙ its.number) after))

    -- a turn is opened
    pub opens : opened q ≡ None → number ≢ greatest_number → (turn : turn_handles.Turn K) → turn_name turn ≡ name_of q number → After (moved (Opened (name_of q number) false None) ts)
        → IsBegun After q number may_wait ts (found (is_open_for eq q.kind (arc_value q.key)) ts) (Ok (Run turn))
    opens absent left turn named after = by-none After number may_wait (Ok (Run turn)) absent (named, left, after)

  -- the result for the open turn with a number, by the entry of its kind and key
  pub told-open : (number : ℕ) (row : OpenTurn V) → opened q ≡ Some row → row.number ≡ number → (result : Option ℕ) → IsSome result → MatchOption (found (is_open_as eq (name_of q number)) ts) (result ≡ None) (λ t. IsSome result × (t.name.number ≡ number))
  told-open number row there same result some =
      let it = the_turn eq laws is_clone hash_of respects ts sound opened ended keeps q hashed row there in
      let same_number : it.0.name.number ≡ number = sym it.2.number ∙ same in
      subst (λ o. MatchOption o (result ≡ None) (λ t. IsSome result × (t.name.number ≡ number))) (sym (known eq is_clone hash_of ts sound opened ended keeps q hashed number it.0 it.1 same_number)) (some, same_number)

  pub told-unknown : (number : ℕ) → ((row : OpenTurn V) → opened q ≡ Some row → row.number ≢ number) → (result : Option ℕ) → result ≡ None → MatchOption (found (is_open_as eq (name_of q number)) ts) (result ≡ None) (λ t. IsSome result × (t.name.number ≡ number))
  told-unknown number other result none =
      subst (λ o. MatchOption o (result ≡ None) (λ t. IsSome result × (t.name.number ≡ number))) (sym (unknown eq is_clone hash_of ts sound opened ended keeps q hashed number other)) none
