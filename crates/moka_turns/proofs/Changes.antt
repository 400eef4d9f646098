-- What a table keeps once the tickets of an open turn have changed: one more is given out, or one is spent.
use Rattle.std.proofs.Common.{◌≡◌, ◌≢◌, inl, inr, ℕ, ◌==◌, Bool, true, false, cond, not, ◌&&◌, Option, Some, None, List, [], ◌∷◌, map, option_map, filter, refl, sym, ap, ◌∙◌, subst}
use Rattle.std.specs.Arc.{arc_value}
use Rattle.std.specs.Option.{IsSome, IfSome}
use Rattle.std.specs.Cmp.{IsEquivalence}
use Rattle.std.proofs.lemmas.Bool.{cond-true, cond_both, eq-eqb}
use Rattle.moka_model.specs.Turns.{Turn, Name, numbered, is_open, has_ticket, is_for, is_open_for, is_ended_as, first_of, found, IsIn}
use Rattle.moka_model.proofs.Callers.{numbered-alone}
use Rattle.moka_turns.specs.declared.turn_key.TurnKey.{TurnKey}
use Rattle.moka_turns.specs.declared.table.OpenTurn.{OpenTurn}
use Rattle.moka_turns.specs.declared.table.EndedTurn.{EndedTurn}
use Rattle.moka_turns.specs.TurnKey.{same_key}
use Rattle.moka_turns.specs.Represents.{Agree, IsOpenRow, IsEndedRow, Represents, AreSound}
use Rattle.moka_turns.proofs.Searches.{found-one, at_most_one, found-other}
use Rattle.moka_turns.proofs.Opens.{and-false}
use Rattle.moka_turns.proofs.Abandons.{the_turn, member, is_open_now, passes, fails}

-- a value that is present, and what holds of it
pub if-there : {A : Type 0} (P : A → Type 0) (o : Option A) → IsSome o → IfSome o P → (x : A) × (o ≡ Some x) × P x
if-there P None some holds = let off : false ≡ true = some in cc
if-there P (Some x) some holds = (x, refl, holds)

pub is-there : {A : Type 0} (o : Option A) → IsSome o → (x : A) × (o ≡ Some x)
is-there None some = let off : false ≡ true = some in cc
is-there (Some x) some = (x, refl)

pub given-there : {A : Type 0} (P : A → Type 0) (o : Option A) (x : A) → o ≡ Some x → IfSome o P → P x
given-there P None x there holds = cc
given-there P (Some y) x there holds = let e : y ≡ x = cc in subst P e holds

module _ {K V E : Type 0} where
  -- if a change does not affect a test, the test finds the changed turn
  found-map : (test : Turn K V E → Bool) (f : Turn K V E → Turn K V E) → ((u : Turn K V E) → test (f u) ≡ test u) → (ts : List (Turn K V E)) → found test (map f ts) ≡ option_map f (found test ts)
  found-map test f unseen [] = refl
  found-map test f unseen (t ∷ ts) = go (test t) refl (found-map test f unseen ts)
    where
      go : (b : Bool) → test t ≡ b → found test (map f ts) ≡ option_map f (found test ts) → first_of (cond (test (f t)) (f t ∷ filter test (map f ts)) (filter test (map f ts))) ≡ option_map f (first_of (cond b (t ∷ filter test ts) (filter test ts)))
      go true h more = ap (λ b. first_of (cond b (f t ∷ filter test (map f ts)) (filter test (map f ts)))) (unseen t ∙ h)
      go false h more = ap (λ b. first_of (cond b (f t ∷ filter test (map f ts)) (filter test (map f ts)))) (unseen t ∙ h) ∙ more

module _ {K V E : Type 0} (eq : K → K → Bool) (laws : IsEquivalence eq) (is_clone : V → V → Type 0) (hash_of : K → ℕ) (respects : (a b : K) → eq a b ≡ true → hash_of a ≡ hash_of b)
    (ts : List (Turn K V E)) (sound : AreSound eq ts) (old_open : TurnKey K → Option (OpenTurn V)) (ended : ℕ → Option (EndedTurn K V E))
    (keeps : Represents eq is_clone hash_of ts old_open ended) (q : TurnKey K) (hashed : q.hash ≡ hash_of (arc_value q.key)) (row : OpenTurn V) (there : old_open q ≡ Some row)
    (new_open : TurnKey K → Option (OpenTurn V)) (change : Turn K V E → Turn K V E) (named : (u : Turn K V E) → (change u).name ≡ u.name) (as_open : (u : Turn K V E) → is_open (change u) ≡ is_open u)
    (row_after : OpenTurn V) (stands_after : (u : Turn K V E) → IsOpenRow eq is_clone u row → IsOpenRow eq is_clone (change u) row_after)
    (opened : (p : TurnKey K) → new_open p ≡ cond (same_key eq q p) (Some row_after) (old_open p)) where
  abbrev t : Turn K V E
  t = (the_turn eq laws is_clone hash_of respects ts sound old_open ended keeps q hashed row there).0

  own : IsIn t ts
  own = (member eq laws is_clone hash_of respects ts sound old_open ended keeps q hashed row there).0

  abbrev pub with_change : List (Turn K V E)
  with_change = map (numbered t.name.number change) ts

  own_turn : (u : Turn K V E) → IsIn u ts → u.name.number ≡ t.name.number → u ≡ t
  own_turn u is_u same = numbered-alone ts sound.0 u t is_u own same

  unseen : (p : TurnKey K) (u : Turn K V E) → is_open_for eq p.kind (arc_value p.key) (change u) ≡ is_open_for eq p.kind (arc_value p.key) u
  unseen p u = ap (λ b. b && is_for eq p.kind (arc_value p.key) (change u)) (as_open u) ∙ ap (λ (n : Name K). is_open u && is_for eq p.kind (arc_value p.key) (record u { name = n })) (named u)

  opened_after : (p : TurnKey K) → p.hash ≡ hash_of (arc_value p.key) → Agree (IsOpenRow eq is_clone) (found (is_open_for eq p.kind (arc_value p.key)) with_change) (new_open p)
  opened_after p hashed_p = go (same_key eq q p) refl
    where
      test : Turn K V E → Bool
      test = is_open_for eq p.kind (arc_value p.key)

      go : (b : Bool) → same_key eq q p ≡ b → Agree (IsOpenRow eq is_clone) (found (is_open_for eq p.kind (arc_value p.key)) with_change) (new_open p)
      go false h =
          let off : is_open_for eq p.kind (arc_value p.key) t ≡ false = fails eq laws is_clone hash_of respects ts sound old_open ended keeps q hashed row there p hashed_p h in
          let now : new_open p ≡ old_open p = opened p ∙ ap (λ b. cond b (Some row_after) (old_open p)) h in
          let same = ap first_of (found-other (is_open_for eq p.kind (arc_value p.key)) t.name.number change ts (λ u is_u is. let e = ap (is_open_for eq p.kind (arc_value p.key)) (own_turn u is_u is) ∙ off in (e, unseen p u ∙ e))) in
          rw (same, now) (keeps.opened_is p hashed_p)
      go true h =
          let on : is_open_for eq p.kind (arc_value p.key) t ≡ true = passes eq laws is_clone hash_of respects ts sound old_open ended keeps q hashed row there p h in
          let now : new_open p ≡ Some row_after = opened p ∙ ap (λ b. cond b (Some row_after) (old_open p)) h in
          let all = found-map (is_open_for eq p.kind (arc_value p.key)) (numbered t.name.number change) (λ u. cond_both (u.name.number == t.name.number) (change u) u (λ w. is_open_for eq p.kind (arc_value p.key) w ≡ is_open_for eq p.kind (arc_value p.key) u) (λ _. unseen p u) (λ _. refl)) ts in
          let first = found-one (is_open_for eq p.kind (arc_value p.key)) ts t own on (λ u is_u on_u. at_most_one (is_open_for eq p.kind (arc_value p.key)) ts (sound.1 p.kind (arc_value p.key)) u t is_u own on_u on) in
          let here : numbered t.name.number change t ≡ change t = cond-true (t.name.number == t.name.number) (change t) t (eq-eqb t.name.number t.name.number refl) in
          let whole = all ∙ ap (option_map (numbered t.name.number change)) first ∙ ap (λ u. Some u) here in
          rw (whole, now) (stands_after t (the_turn eq laws is_clone hash_of respects ts sound old_open ended keeps q hashed row there).2)

  ended_after : (m : ℕ) → Agree (IsEndedRow eq is_clone) (found (is_ended_as m) with_change) (ended m)
  ended_after m =
      rw (ap first_of (found-other (is_ended_as m) t.name.number change ts (λ u is_u is. let now = ap is_open (own_turn u is_u is) ∙ is_open_now eq laws is_clone hash_of respects ts sound old_open ended keeps q hashed row there in (still u now, still (change u) (as_open u ∙ now)))))
      (keeps.ended_is m)
    where
      still : (u : Turn K V E) → is_open u ≡ true → is_ended_as m u ≡ false
      still u now = ap (λ b. (u.name.number == m) && (not b && has_ticket u)) now ∙ and-false (u.name.number == m)

  -- the table keeps the turns, of which that one has changed
  pub change-keeps : Represents eq is_clone hash_of with_change new_open ended
  change-keeps = record { opened_is = opened_after; ended_is = ended_after }
