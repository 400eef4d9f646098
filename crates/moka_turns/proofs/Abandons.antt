-- What a table keeps once an open turn has ended.
use Rattle.std.proofs.Common.{◌≡◌, ◌≢◌, ⊎_elim, ℕ, ◌<◌, ◌==◌, ◌≤◌, Bool, true, false, cond, ◌&&◌, nat_eq, nat_le, Option, Some, None, List, map, refl, sym, ap, ◌∙◌, subst, arith}
use denote.Enum.Bare.{sameb}
use Rattle.std.specs.Map.{lookup_key}
use Rattle.std.proofs.lemmas.Map.Made.{lookup_key_passes}
use Rattle.moka_model.specs.contracts.turns.Kind.{the_type}
use Rattle.std.specs.Arc.{arc_value}
use Rattle.std.specs.Option.{MatchOption}
use Rattle.std.specs.Cmp.{IsEquivalence}
use Rattle.std.proofs.lemmas.Bool.{and_parts, and_from, eq-eqb, eqb-true, ne_eqb, leb-true, leb-false}
use Rattle.std.proofs.lemmas.Bool.Decides.{eqb_tells}
use Rattle.moka_model.specs.declared.turns.Kind.{Kind}
use Rattle.moka_model.specs.declared.turns.Kind.TheVariants.{With, Optionally, Try, Compute}
use Rattle.moka_model.specs.Turns.{Turn, Name, End, same_kind, ended_with, is_open, has_ticket, is_for, is_open_for, is_open_as, is_ended_as, same_name, found, IsIn}
use Rattle.moka_model.specs.Calls.{IsCopiedEnd}
use Rattle.moka_model.proofs.Callers.{found-is, same_kind-is, numbered-alone}
use Rattle.moka_turns.specs.declared.turn_key.TurnKey.{TurnKey}
use Rattle.moka_turns.specs.declared.table.OpenTurn.{OpenTurn}
use Rattle.moka_turns.specs.declared.table.TurnEnd.{TurnEnd}
use Rattle.moka_turns.specs.declared.table.EndedTurn.{EndedTurn}
use Rattle.moka_turns.specs.TurnKey.{same_key}
use Rattle.moka_turns.specs.Represents.{name_of, end_of, Agree, IsOpenRow, IsEndedRow, Represents, AreSound}
use Rattle.moka_turns.proofs.Searches.{found-none, found-one, at_most_one, after_end, none-open, others-open, others-ended, own-ended, own-gone, own-before}

pub same_kind-refl : (a : Kind) → same_kind a a ≡ true
same_kind-refl With = refl
same_kind-refl Optionally = refl
same_kind-refl Try = refl
same_kind-refl Compute = refl

leb_some : (n : ℕ) → nat_le 1 n ≡ true → 0 < n
leb_some n h = let it = leb-true 1 n h in omega (arith, it)

leb_none : (n : ℕ) → nat_le 1 n ≡ false → n ≡ 0
leb_none n h = let it = leb-false 1 n h in omega (arith, it)

-- the type's comparison of kinds is `same_kind`
pub kinds-same : (a b : Kind) → sameb the_type a b ≡ same_kind a b
kinds-same With With = refl
kinds-same With Optionally = refl
kinds-same With Try = refl
kinds-same With Compute = refl
kinds-same Optionally With = refl
kinds-same Optionally Optionally = refl
kinds-same Optionally Try = refl
kinds-same Optionally Compute = refl
kinds-same Try With = refl
kinds-same Try Optionally = refl
kinds-same Try Try = refl
kinds-same Try Compute = refl
kinds-same Compute With = refl
kinds-same Compute Optionally = refl
kinds-same Compute Try = refl
kinds-same Compute Compute = refl

pub by_kinds : {K X : Type 0} (eq : K → K → Bool) (q p : TurnKey K) (new here old : Option X) → new ≡ cond ((q.hash == p.hash) && (sameb the_type q.kind p.kind && eq (arc_value q.key) (arc_value p.key))) here old → new ≡ cond (same_key eq q p) here old
by_kinds eq q p new here old is = is ∙ ap (λ b. cond ((q.hash == p.hash) && (b && eq (arc_value q.key) (arc_value p.key))) here old) (kinds-same q.kind p.kind)

-- a stored table key that a lookup finds has the kind that was looked up, and an equal key
pub own-parts : {K V : Type 0} (eq : K → K → Bool) (q : TurnKey K) (rows : List (TurnKey K × OpenTurn V)) (own : TurnKey K) → lookup_key (λ p. (q.hash == p.hash) && (sameb the_type q.kind p.kind && eq (arc_value q.key) (arc_value p.key))) rows ≡ Some own
    → (own.kind ≡ q.kind) × (eq (arc_value q.key) (arc_value own.key) ≡ true)
own-parts eq q rows own is =
    let passes = lookup_key_passes (λ (p : TurnKey _). (q.hash == p.hash) && (sameb the_type q.kind p.kind && eq (arc_value q.key) (arc_value p.key))) rows own is in
    let one = and_parts (q.hash == own.hash) (sameb the_type q.kind own.kind && eq (arc_value q.key) (arc_value own.key)) passes in
    let two = and_parts (sameb the_type q.kind own.kind) (eq (arc_value q.key) (arc_value own.key)) one.1 in
    (sym (same_kind-is q.kind own.kind (sym (kinds-same q.kind own.kind) ∙ two.0)), two.1)

-- whether an entry that is found has a number
module _ {V : Type 0} (number : ℕ) where
  abbrev Tells : Bool → Option (OpenTurn V) → Type 0
  Tells b o = MatchOption o (b ≡ false) (λ row. b ≡ (row.number == number))

  pub other-number : (o : Option (OpenTurn V)) (b : Bool) → Tells b o → b ≡ false → (row : OpenTurn V) → o ≡ Some row → row.number ≢ number
  other-number None b is none row there same = cc
  other-number (Some r) b is none row there same =
      let e : r ≡ row = cc in
      let yes : (r.number == number) ≡ true = eq-eqb r.number number (ap (λ (x : OpenTurn V). x.number) e ∙ same) in
      let off : true ≡ false = sym yes ∙ sym is ∙ none in cc

  pub own-number : (o : Option (OpenTurn V)) (b : Bool) → Tells b o → b ≡ true → (row : OpenTurn V) → o ≡ Some row → row.number ≡ number
  own-number None b is some row there = cc
  own-number (Some r) b is some row there =
      let e : r ≡ row = cc in
      sym (ap (λ (x : OpenTurn V). x.number) e) ∙ eqb-true r.number number (sym is ∙ some)

module _ {A B : Type 0} (P : A → B → Type 0) where
  pub agree-none : (a : Option A) (b : Option B) → Agree P a b → a ≡ None → b ≡ None
  agree-none None None agree is = refl
  agree-none None (Some b) agree is = absurd agree
  agree-none (Some a) b agree is = cc

  -- if a value is present on one side, one is on the other
  pub agree-some : (a : Option A) (b : Option B) (y : B) → Agree P a b → b ≡ Some y → (x : A) × (a ≡ Some x) × P x y
  agree-some None None y agree is = cc
  agree-some None (Some b) y agree is = absurd agree
  agree-some (Some a) None y agree is = cc
  agree-some (Some a) (Some b) y agree is = let same : b ≡ y = cc in (a, refl, subst (P a) same agree)

module _ {A B : Type 0} (P : A → B → Type 0) where
  pub some-agree : (a : Option A) (b : Option B) (x : A) → Agree P a b → a ≡ Some x → (y : B) × (b ≡ Some y) × P x y
  some-agree None b x agree is = cc
  some-agree (Some a) None x agree is = absurd agree
  some-agree (Some a) (Some b) x agree is = let same : a ≡ x = cc in (b, refl, subst (λ (c : A). P c b) same agree)

module _ {K V E : Type 0} (eq : K → K → Bool) (laws : IsEquivalence eq) (is_clone : V → V → Type 0) (hash_of : K → ℕ) (respects : (a b : K) → eq a b ≡ true → hash_of a ≡ hash_of b)
    (ts : List (Turn K V E)) (sound : AreSound eq ts) (old_open : TurnKey K → Option (OpenTurn V)) (old_ended : ℕ → Option (EndedTurn K V E))
    (keeps : Represents eq is_clone hash_of ts old_open old_ended) (q : TurnKey K) (hashed : q.hash ≡ hash_of (arc_value q.key)) (row : OpenTurn V) (there : old_open q ≡ Some row) where
  -- the turn of the entry
  pub the_turn : (t : Turn K V E) × (found (is_open_for eq q.kind (arc_value q.key)) ts ≡ Some t) × IsOpenRow eq is_clone t row
  the_turn = agree-some (IsOpenRow eq is_clone) (found (is_open_for eq q.kind (arc_value q.key)) ts) (old_open q) row (keeps.opened_is q hashed) there

  abbrev pub t : Turn K V E
  t = the_turn.0

  abbrev pub stands_for : IsOpenRow eq is_clone t row
  stands_for = the_turn.2

  pub member : IsIn t ts × (is_open_for eq q.kind (arc_value q.key) t ≡ true)
  member = found-is (is_open_for eq q.kind (arc_value q.key)) ts t the_turn.1

  pub is_open_now : is_open t ≡ true
  is_open_now = (and_parts (is_open t) (is_for eq q.kind (arc_value q.key) t) member.1).0

  pub own_name : (same_kind t.name.kind q.kind ≡ true) × (eq t.name.key (arc_value q.key) ≡ true)
  own_name = and_parts (same_kind t.name.kind q.kind) (eq t.name.key (arc_value q.key)) (and_parts (is_open t) (is_for eq q.kind (arc_value q.key) t) member.1).1

  -- the turn is also found by another table key that is equal,
  pub passes : (p : TurnKey K) → same_key eq q p ≡ true → is_open_for eq p.kind (arc_value p.key) t ≡ true
  passes p same =
      let one = and_parts (q.hash == p.hash) (same_kind q.kind p.kind && eq (arc_value q.key) (arc_value p.key)) same in
      let two = and_parts (same_kind q.kind p.kind) (eq (arc_value q.key) (arc_value p.key)) one.1 in
      and_from (is_open t) (is_for eq p.kind (arc_value p.key) t) is_open_now
      (and_from (same_kind t.name.kind p.kind) (eq t.name.key (arc_value p.key))
      (subst (λ k. same_kind t.name.kind k ≡ true) (same_kind-is q.kind p.kind two.0) own_name.0)
      (laws.congr t.name.key (arc_value q.key) (arc_value p.key) own_name.1 ∙ two.1))

  -- and not by one that is not equal
  pub fails : (p : TurnKey K) → p.hash ≡ hash_of (arc_value p.key) → same_key eq q p ≡ false → is_open_for eq p.kind (arc_value p.key) t ≡ false
  fails p hashed_p other = go (is_open_for eq p.kind (arc_value p.key) t) refl
    where
      go : (b : Bool) → is_open_for eq p.kind (arc_value p.key) t ≡ b → is_open_for eq p.kind (arc_value p.key) t ≡ false
      go false h = h
      go true h =
          let both = and_parts (same_kind t.name.kind p.kind) (eq t.name.key (arc_value p.key)) (and_parts (is_open t) (is_for eq p.kind (arc_value p.key) t) h).1 in
          let keys : eq (arc_value q.key) (arc_value p.key) ≡ true = sym (laws.congr t.name.key (arc_value q.key) (arc_value p.key) own_name.1) ∙ both.1 in
          let kinds : same_kind q.kind p.kind ≡ true = subst (λ k. same_kind k p.kind ≡ true) (same_kind-is t.name.kind q.kind own_name.0) both.0 in
          let hashes : q.hash ≡ p.hash = hashed ∙ respects (arc_value q.key) (arc_value p.key) keys ∙ sym hashed_p in
          let same : same_key eq q p ≡ true = and_from (q.hash == p.hash) (same_kind q.kind p.kind && eq (arc_value q.key) (arc_value p.key)) (eq-eqb q.hash p.hash hashes) (and_from (same_kind q.kind p.kind) (eq (arc_value q.key) (arc_value p.key)) kinds keys) in
          let no = sym same ∙ other in cc

  -- it has the number of its entry
  pub abandoned-number : t.name.number ≡ row.number
  abandoned-number = sym stands_for.number

  -- it ends, and is kept under the table key that was stored
  module _ (own_key : TurnKey K) (own_kind : own_key.kind ≡ q.kind) (own_same : eq (arc_value q.key) (arc_value own_key.key) ≡ true) (given : TurnEnd V E) (final : End V E) (copied : 0 < row.unspent → IsCopiedEnd is_clone (Some final) (Some (end_of given))) (new_open : TurnKey K → Option (OpenTurn V)) (new_ended : ℕ → Option (EndedTurn K V E)) (opened : (p : TurnKey K) → new_open p ≡ cond (same_key eq q p) None (old_open p))
      (waited : 0 < row.unspent → (m : ℕ) → new_ended m ≡ cond (row.number == m) (Some (record { key = own_key; end = given; unspent = row.unspent })) (old_ended m))
      (alone : row.unspent ≡ 0 → (m : ℕ) → new_ended m ≡ old_ended m) where
    abbrev ts_after : List (Turn K V E)
    ts_after = after_end eq ts sound.0 sound.1 t member.0 is_open_now final

    opened_after : (p : TurnKey K) → p.hash ≡ hash_of (arc_value p.key) → Agree (IsOpenRow eq is_clone) (found (is_open_for eq p.kind (arc_value p.key)) ts_after) (new_open p)
    opened_after p hashed_p = go (same_key eq q p) refl
      where
        go : (b : Bool) → same_key eq q p ≡ b → Agree (IsOpenRow eq is_clone) (found (is_open_for eq p.kind (arc_value p.key)) ts_after) (new_open p)
        go true h =
            let none : new_open p ≡ None = opened p ∙ ap (λ b. cond b None (old_open p)) h in
            rw (none-open eq ts sound.0 sound.1 t member.0 is_open_now final p.kind (arc_value p.key) (passes p h), none) tt
        go false h =
            let kept : new_open p ≡ old_open p = opened p ∙ ap (λ b. cond b None (old_open p)) h in
            rw (others-open eq ts sound.0 sound.1 t member.0 is_open_now final p.kind (arc_value p.key) (fails p hashed_p h), kept) (keeps.opened_is p hashed_p)

    ended_after : (m : ℕ) → Agree (IsEndedRow eq is_clone) (found (is_ended_as m) ts_after) (new_ended m)
    ended_after m = ⊎_elim own other (eqb_tells m t.name.number)
      where
        other : ((m == t.name.number) ≡ false) × (m ≢ t.name.number) → Agree (IsEndedRow eq is_clone) (found (is_ended_as m) ts_after) (new_ended m)
        other differs =
            let elsewhere : row.number ≢ m = λ e. differs.1 (sym e ∙ stands_for.number) in
            let kept : new_ended m ≡ old_ended m = go (nat_le 1 row.unspent) refl in
            rw (others-ended eq ts sound.0 sound.1 t member.0 is_open_now final m differs.1, kept) (keeps.ended_is m)
          where
            go : (b : Bool) → nat_le 1 row.unspent ≡ b → new_ended m ≡ old_ended m
            go true h = waited (leb_some row.unspent h) m ∙ ap (λ b. cond b (Some (record { key = own_key; end = given; unspent = row.unspent })) (old_ended m)) (ne_eqb row.number m (λ e. differs.1 (sym e ∙ stands_for.number)))
            go false h = alone (leb_none row.unspent h) m

        own : ((m == t.name.number) ≡ true) × (m ≡ t.name.number) → Agree (IsEndedRow eq is_clone) (found (is_ended_as m) ts_after) (new_ended m)
        own same = subst (λ n. Agree (IsEndedRow eq is_clone) (found (is_ended_as n) ts_after) (new_ended n)) (sym same.1) (go (nat_le 1 row.unspent) refl)
          where
            go : (b : Bool) → nat_le 1 row.unspent ≡ b → Agree (IsEndedRow eq is_clone) (found (is_ended_as t.name.number) ts_after) (new_ended t.name.number)
            go true h =
                let has : has_ticket t ≡ true = ap (nat_le 1) (sym stands_for.unspent) ∙ h in
                let now : new_ended t.name.number ≡ Some (record { key = own_key; end = given; unspent = row.unspent }) =
                waited (leb_some row.unspent h) t.name.number ∙ ap (λ b. cond b (Some (record { key = own_key; end = given; unspent = row.unspent })) (old_ended t.name.number)) (eq-eqb row.number t.name.number stands_for.number) in
                rw (own-ended eq ts sound.0 sound.1 t member.0 is_open_now final has, now)
                (record { kind = own_kind ∙ sym (same_kind-is t.name.kind q.kind own_name.0); key = laws.congr t.name.key (arc_value q.key) (arc_value own_key.key) own_name.1 ∙ own_same; end = copied (leb_some row.unspent h); unspent = stands_for.unspent })
            go false h =
                let none : has_ticket t ≡ false = ap (nat_le 1) (sym stands_for.unspent) ∙ h in
                let before = own-before eq ts sound.0 sound.1 t member.0 is_open_now final in
                let kept : new_ended t.name.number ≡ None = alone (leb_none row.unspent h) t.name.number ∙ agree-none (IsEndedRow eq is_clone) (found (is_ended_as t.name.number) ts) (old_ended t.name.number) (keeps.ended_is t.name.number) before in
                rw (own-gone eq ts sound.0 sound.1 t member.0 is_open_now final none, kept) tt

    -- the table keeps the turns, of which that one has ended
    pub end-keeps : Represents eq is_clone hash_of ts_after new_open new_ended
    end-keeps = record { opened_is = opened_after; ended_is = ended_after }

-- The turn with a name, by its key and its number.
module _ {K V E : Type 0} (eq : K → K → Bool) (is_clone : V → V → Type 0) (hash_of : K → ℕ) (ts : List (Turn K V E)) (sound : AreSound eq ts)
    (opened : TurnKey K → Option (OpenTurn V)) (ended : ℕ → Option (EndedTurn K V E)) (keeps : Represents eq is_clone hash_of ts opened ended) (q : TurnKey K) (hashed : q.hash ≡ hash_of (arc_value q.key)) (number : ℕ) where
  name_parts : (u : Turn K V E) → is_open_as eq (name_of q number) u ≡ true → (u.name.number ≡ number) × (is_open_for eq q.kind (arc_value q.key) u ≡ true)
  name_parts u on_u =
      let one = and_parts (is_open u) (same_name eq u.name (name_of q number)) on_u in
      let two = and_parts (u.name.number == number) (is_for eq q.kind (arc_value q.key) u) one.1 in
      (eqb-true u.name.number number two.0, and_from (is_open u) (is_for eq q.kind (arc_value q.key) u) one.0 two.1)

  -- if the open turn has another number, or there is none, no open turn has the name
  pub unknown : ((row : OpenTurn V) → opened q ≡ Some row → row.number ≢ number) → found (is_open_as eq (name_of q number)) ts ≡ None
  unknown other = found-none (is_open_as eq (name_of q number)) ts (λ u is. go u is (is_open_as eq (name_of q number) u) refl)
    where
      go : (u : Turn K V E) → IsIn u ts → (b : Bool) → is_open_as eq (name_of q number) u ≡ b → is_open_as eq (name_of q number) u ≡ false
      go u is false h = h
      go u is true h =
          let parts = name_parts u h in
          let first = found-one (is_open_for eq q.kind (arc_value q.key)) ts u is parts.1 (λ v is_v on_v. at_most_one (is_open_for eq q.kind (arc_value q.key)) ts (sound.1 q.kind (arc_value q.key)) v u is_v is on_v parts.1) in
          let row = some-agree (IsOpenRow eq is_clone) (found (is_open_for eq q.kind (arc_value q.key)) ts) (opened q) u (keeps.opened_is q hashed) first in
          absurd (other row.0 row.1 (row.2.number ∙ parts.0))

  -- if it has the number, it has the name
  pub known : (t : Turn K V E) → found (is_open_for eq q.kind (arc_value q.key)) ts ≡ Some t → t.name.number ≡ number → found (is_open_as eq (name_of q number)) ts ≡ Some t
  known t first same =
      let member = found-is (is_open_for eq q.kind (arc_value q.key)) ts t first in
      let parts = and_parts (is_open t) (is_for eq q.kind (arc_value q.key) t) member.1 in
      found-one (is_open_as eq (name_of q number)) ts t member.0
      (and_from (is_open t) (same_name eq t.name (name_of q number)) parts.0 (and_from (t.name.number == number) (is_for eq q.kind (arc_value q.key) t) (eq-eqb t.name.number number same) parts.1))
      (λ u is_u on_u. numbered-alone ts sound.0 u t is_u member.0 ((name_parts u on_u).0 ∙ sym same))
