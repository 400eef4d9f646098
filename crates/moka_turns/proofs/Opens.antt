-- What a table keeps once a turn was opened.
use Rattle.std.proofs.Common.{◌≡◌, ℕ, ◌==◌, Bool, true, false, cond, ◌&&◌, not, Option, Some, None, List, [], ◌∷◌, ◌++◌, filter, refl, sym, ap, ◌∙◌, subst, append-nil}
use Rattle.std.specs.Arc.{arc_value}
use Rattle.std.specs.Cmp.{IsEquivalence}
use Rattle.std.proofs.lemmas.Bool.{and_parts, and_from, eq-eqb}
use Rattle.std.proofs.lemmas.List.Elements.{filter-append, filter_agree}
use Rattle.moka_model.specs.declared.turns.Kind.{Kind}
use Rattle.moka_model.specs.Turns.{Turn, Name, Opened, same_kind, opening, moved, is_open, has_ticket, is_for, is_open_for, is_ended_as, first_of, found}
use Rattle.moka_model.specs.Calls.{IsCopyOf}
use Rattle.moka_model.proofs.Callers.{first-none, same_kind-is, is_open_for-congr}
use Rattle.moka_turns.specs.declared.turn_key.TurnKey.{TurnKey}
use Rattle.moka_turns.specs.declared.table.OpenTurn.{OpenTurn}
use Rattle.moka_turns.specs.declared.table.EndedTurn.{EndedTurn}
use Rattle.moka_turns.specs.TurnKey.{same_key}
use Rattle.moka_turns.specs.Represents.{name_of, Agree, IsOpenRow, IsEndedRow, Represents}
use Rattle.moka_turns.proofs.Abandons.{same_kind-refl}

pub and-false : (b : Bool) → (b && false) ≡ false
and-false true = refl
and-false false = refl

module _ {A B : Type 0} (P : A → B → Type 0) where
  pub none-agree : (a : Option A) (b : Option B) → Agree P a b → b ≡ None → a ≡ None
  none-agree None b agree is = refl
  none-agree (Some a) None agree is = absurd agree
  none-agree (Some a) (Some b) agree is = cc

module _ {K V E : Type 0} where
  -- a turn that is appended and fails a test does not change what the test finds
  found-before : (test : Turn K V E → Bool) (ts : List (Turn K V E)) (u : Turn K V E) → test u ≡ false → found test (ts ++ u ∷ []) ≡ found test ts
  found-before test ts u fails = ap first_of (filter-append test ts (u ∷ []) ∙ ap (λ b. filter test ts ++ cond b (u ∷ []) []) fails ∙ append-nil (filter test ts))

  -- and one that passes it is found, if none did before
  found-last : (test : Turn K V E → Bool) (ts : List (Turn K V E)) (u : Turn K V E) → found test ts ≡ None → test u ≡ true → found test (ts ++ u ∷ []) ≡ Some u
  found-last test ts u none passes =
      ap first_of (filter-append test ts (u ∷ []) ∙ ap (λ l. l ++ filter test (u ∷ [])) (first-none (filter test ts) none) ∙ ap (λ b. cond b (u ∷ []) []) passes)

module _ {K V E : Type 0} (eq : K → K → Bool) (laws : IsEquivalence eq) (is_clone : V → V → Type 0) (hash_of : K → ℕ) (respects : (a b : K) → eq a b ≡ true → hash_of a ≡ hash_of b)
    (ts : List (Turn K V E)) (old_open new_open : TurnKey K → Option (OpenTurn V)) (ended : ℕ → Option (EndedTurn K V E)) (keeps : Represents eq is_clone hash_of ts old_open ended)
    (q : TurnKey K) (hashed : q.hash ≡ hash_of (arc_value q.key)) (absent : old_open q ≡ None) (row : OpenTurn V) (kept : Option V) (copy : IsCopyOf is_clone kept row.saved) (none_waits : row.unspent ≡ 0)
    (opened : (p : TurnKey K) → new_open p ≡ cond (same_key eq q p) (Some row) (old_open p)) where
  abbrev t : Turn K V E
  t = opening (name_of q row.number) row.shown kept

  abbrev pub with_opened : List (Turn K V E)
  with_opened = ts ++ t ∷ []

  no_turn : found (is_open_for eq q.kind (arc_value q.key)) ts ≡ None
  no_turn = none-agree (IsOpenRow eq is_clone) (found (is_open_for eq q.kind (arc_value q.key)) ts) (old_open q) (keeps.opened_is q hashed) absent

  is_row : IsOpenRow eq is_clone t row
  is_row = record { number = refl; shown = refl; saved = copy; unspent = none_waits }

  opened_after : (p : TurnKey K) → p.hash ≡ hash_of (arc_value p.key) → Agree (IsOpenRow eq is_clone) (found (is_open_for eq p.kind (arc_value p.key)) with_opened) (new_open p)
  opened_after p hashed_p = go (same_key eq q p) refl
    where
      go : (b : Bool) → same_key eq q p ≡ b → Agree (IsOpenRow eq is_clone) (found (is_open_for eq p.kind (arc_value p.key)) with_opened) (new_open p)
      go true h =
          let one = and_parts (q.hash == p.hash) (same_kind q.kind p.kind && eq (arc_value q.key) (arc_value p.key)) h in
          let alike = is_open_for-congr eq laws (name_of q row.number) p.kind (arc_value p.key) one.1 in
          let none : found (is_open_for eq p.kind (arc_value p.key)) ts ≡ None = ap first_of (filter_agree (is_open_for eq p.kind (arc_value p.key)) (is_open_for eq q.kind (arc_value q.key)) alike ts) ∙ no_turn in
          let now : new_open p ≡ Some row = opened p ∙ ap (λ b. cond b (Some row) (old_open p)) h in
          rw (found-last (is_open_for eq p.kind (arc_value p.key)) ts t none one.1, now) is_row
      go false h =
          let fails : is_open_for eq p.kind (arc_value p.key) t ≡ false = other (same_kind q.kind p.kind && eq (arc_value q.key) (arc_value p.key)) refl in
          let now : new_open p ≡ old_open p = opened p ∙ ap (λ b. cond b (Some row) (old_open p)) h in
          rw (found-before (is_open_for eq p.kind (arc_value p.key)) ts t fails, now) (keeps.opened_is p hashed_p)
        where
          other : (b : Bool) → (same_kind q.kind p.kind && eq (arc_value q.key) (arc_value p.key)) ≡ b → (same_kind q.kind p.kind && eq (arc_value q.key) (arc_value p.key)) ≡ false
          other false is = is
          other true is =
              let both = and_parts (same_kind q.kind p.kind) (eq (arc_value q.key) (arc_value p.key)) is in
              let hashes : q.hash ≡ p.hash = hashed ∙ respects (arc_value q.key) (arc_value p.key) both.1 ∙ sym hashed_p in
              let yes : same_key eq q p ≡ true = and_from (q.hash == p.hash) (same_kind q.kind p.kind && eq (arc_value q.key) (arc_value p.key)) (eq-eqb q.hash p.hash hashes) is in
              let off : true ≡ false = sym yes ∙ h in cc

  ended_after : (m : ℕ) → Agree (IsEndedRow eq is_clone) (found (is_ended_as m) with_opened) (ended m)
  ended_after m = rw (found-before (is_ended_as m) ts t (and-false (row.number == m))) (keeps.ended_is m)

  -- the table keeps the turns, and the new one
  pub add-keeps : Represents eq is_clone hash_of with_opened new_open ended
  add-keeps = record { opened_is = opened_after; ended_is = ended_after }
