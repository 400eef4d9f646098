-- What a table keeps once a ticket was spent, and which turn a ticket is of.
use Rattle.std.proofs.Common.{◌≡◌, ◌≢◌, ⊎_elim, ℕ, zero, suc, ◌-◌, ◌==◌, Bool, true, false, cond, not, ◌&&◌, nat_lt, nat_le, Option, Some, None, List, map, refl, sym, ap, ◌∙◌, subst}
use denote.Enum.Bare.{sameb}
use Rattle.moka_model.specs.contracts.turns.Kind.{the_type}
use Rattle.std.specs.Arc.{arc_value}
use Rattle.std.specs.Option.{MatchOption}
use Rattle.std.specs.Cmp.{IsEquivalence}
use Rattle.std.proofs.lemmas.Bool.{and_parts, and_from, cond-true, eq-eqb, ne_eqb, eqb-true}
use Rattle.std.proofs.lemmas.Bool.Decides.{eqb_tells}
use Rattle.moka_model.specs.Turns.{Turn, Name, numbered, spent, is_open, has_ticket, is_for, is_open_for, is_ended_as, has_ticket_as, same_name, same_kind, first_of, found, IsIn}
use Rattle.moka_model.proofs.Callers.{found-is, Was, changed, left, in_numbered, apart-changed, numbered-alone, numbered-number}
use Rattle.moka_turns.specs.declared.turn_key.TurnKey.{TurnKey}
use Rattle.moka_turns.specs.declared.table.OpenTurn.{OpenTurn}
use Rattle.moka_turns.specs.declared.table.EndedTurn.{EndedTurn}
use Rattle.moka_turns.specs.Represents.{name_of, Agree, IsOpenRow, IsEndedRow, Represents, AreSound}
use Rattle.moka_turns.specs.Table.{one_less, retained_ended}
use Rattle.moka_turns.proofs.Searches.{found-none, found-one, at_most_one, found-other, in_mapped}
use Rattle.moka_turns.proofs.Opens.{and-false}
use Rattle.moka_turns.proofs.Abandons.{agree-some, some-agree, kinds-same, the_turn, member}

-- what the result b of a test P says of an optional value: it is P of the value, and false without one
module _ {A : Type 0} (P : A → Bool) where
  abbrev pub TellsOf : Option A → Bool → Type 0
  TellsOf o b = MatchOption o (b ≡ false) (λ x. b ≡ P x)

  fails-there : (o : Option A) (b : Bool) → TellsOf o b → b ≡ false → (x : A) → o ≡ Some x → P x ≡ false
  fails-there None b is none x there = cc
  fails-there (Some y) b is none x there = let e : y ≡ x = cc in ap P (sym e) ∙ sym is ∙ none

  pub passes-there : (o : Option A) (b : Bool) → TellsOf o b → b ≡ true → (x : A) × (o ≡ Some x) × (P x ≡ true)
  passes-there None b is some = let off : false ≡ true = sym is ∙ some in cc
  passes-there (Some y) b is some = (y, refl, sym is ∙ some)

-- whether an ended turn has a kind and key: the type's comparison of kinds and `same_kind` agree
pub its-kinds : {K V E : Type 0} (eq : K → K → Bool) (q : TurnKey K) (o : Option (EndedTurn K V E)) (b : Bool)
    → MatchOption o (b ≡ false) (λ row. b ≡ (sameb the_type row.key.kind q.kind && eq (arc_value row.key.key) (arc_value q.key)))
    → MatchOption o (b ≡ false) (λ row. b ≡ (same_kind row.key.kind q.kind && eq (arc_value row.key.key) (arc_value q.key)))
its-kinds eq q None b is = is
its-kinds eq q (Some row) b is = is ∙ ap (λ k. k && eq (arc_value row.key.key) (arc_value q.key)) (kinds-same row.key.kind q.kind)

some-left : (n : ℕ) → nat_lt 0 n ≡ nat_le 1 n
some-left zero = refl
some-left (suc n) = refl

module _ {K V E : Type 0} (eq : K → K → Bool) (laws : IsEquivalence eq) (is_clone : V → V → Type 0) (hash_of : K → ℕ) (respects : (a b : K) → eq a b ≡ true → hash_of a ≡ hash_of b)
    (ts : List (Turn K V E)) (sound : AreSound eq ts) (opened : TurnKey K → Option (OpenTurn V)) (ended : ℕ → Option (EndedTurn K V E))
    (keeps : Represents eq is_clone hash_of ts opened ended) (q : TurnKey K) (hashed : q.hash ≡ hash_of (arc_value q.key)) (number : ℕ) where
  parts : (u : Turn K V E) → has_ticket_as eq (name_of q number) u ≡ true → (has_ticket u ≡ true) × (u.name.number ≡ number) × (is_for eq q.kind (arc_value q.key) u ≡ true)
  parts u on_u =
      let one = and_parts (has_ticket u) (same_name eq u.name (name_of q number)) on_u in
      let two = and_parts (u.name.number == number) (is_for eq q.kind (arc_value q.key) u) one.1 in
      (one.0, eqb-true u.name.number number two.0, two.1)

  from_parts : (u : Turn K V E) → has_ticket u ≡ true → u.name.number ≡ number → is_for eq q.kind (arc_value q.key) u ≡ true → has_ticket_as eq (name_of q number) u ≡ true
  from_parts u has same for_it =
      and_from (has_ticket u) (same_name eq u.name (name_of q number)) has
      (and_from (u.name.number == number) (is_for eq q.kind (arc_value q.key) u) (eq-eqb u.name.number number same) for_it)

  the_one : (t : Turn K V E) → IsIn t ts → has_ticket_as eq (name_of q number) t ≡ true → found (has_ticket_as eq (name_of q number)) ts ≡ Some t
  the_one t is on_t = found-one (has_ticket_as eq (name_of q number)) ts t is on_t (λ u is_u on_u. numbered-alone ts sound.0 u t is_u is ((parts u on_u).1 ∙ sym (parts t on_t).1))

  -- the open turn of the key has the name, if it has the number and an unspent ticket
  pub awaited : (row : OpenTurn V) (there : opened q ≡ Some row) → row.number ≡ number → nat_le 1 row.unspent ≡ true
      → found (has_ticket_as eq (name_of q number)) ts ≡ Some ((the_turn eq laws is_clone hash_of respects ts sound opened ended keeps q hashed row there).0)
  awaited row there same has =
      let it = the_turn eq laws is_clone hash_of respects ts sound opened ended keeps q hashed row there in
      let inside = member eq laws is_clone hash_of respects ts sound opened ended keeps q hashed row there in
      the_one it.0 inside.0 (from_parts it.0 (ap (nat_le 1) (sym it.2.unspent) ∙ has) (sym it.2.number ∙ same) (and_parts (is_open it.0) (is_for eq q.kind (arc_value q.key) it.0) inside.1).1)

  module _ (row : EndedTurn K V E) (there : ended number ≡ Some row) where
    -- the ended turn with the number
    pub the_ended : (t : Turn K V E) × (found (is_ended_as number) ts ≡ Some t) × IsEndedRow eq is_clone t row
    the_ended = agree-some (IsEndedRow eq is_clone) (found (is_ended_as number) ts) (ended number) row (keeps.ended_is number) there

    abbrev pub t : Turn K V E
    t = the_ended.0

    inside : IsIn t ts × (is_ended_as number t ≡ true)
    inside = found-is (is_ended_as number) ts t the_ended.1

    facts : (t.name.number ≡ number) × (is_open t ≡ false) × (has_ticket t ≡ true)
    facts =
        let one = and_parts (t.name.number == number) (not (is_open t) && has_ticket t) inside.1 in
        let two = and_parts (not (is_open t)) (has_ticket t) one.1 in
        (eqb-true t.name.number number one.0, closed (is_open t) two.0, two.1)
      where
        closed : (b : Bool) → not b ≡ true → b ≡ false
        closed false is = refl
        closed true is = cc

    -- it has the name, if it has the kind and the key
    pub kept : (same_kind row.key.kind q.kind && eq (arc_value row.key.key) (arc_value q.key)) ≡ true → found (has_ticket_as eq (name_of q number)) ts ≡ Some t
    kept same =
        let both = and_parts (same_kind row.key.kind q.kind) (eq (arc_value row.key.key) (arc_value q.key)) same in
        the_one t inside.0 (from_parts t facts.2 facts.0
        (and_from (same_kind t.name.kind q.kind) (eq t.name.key (arc_value q.key))
        (subst (λ k. same_kind k q.kind ≡ true) the_ended.2.kind both.0)
        (laws.congr t.name.key (arc_value row.key.key) (arc_value q.key) the_ended.2.key ∙ both.1)))

    pub ended-number : t.name.number ≡ number
    ended-number = facts.0

    module _ (new_ended : ℕ → Option (EndedTurn K V E)) (spent_is : (m : ℕ) → new_ended m ≡ cond (number == m) (retained_ended (one_less row)) (ended m)) where
      abbrev after_it : List (Turn K V E)
      after_it = map (numbered number spent) ts

      same_turn : (u : Turn K V E) → IsIn u ts → u.name.number ≡ number → u ≡ t
      same_turn u is_u same = numbered-alone ts sound.0 u t is_u inside.0 (same ∙ sym facts.0)

      opened_after : (p : TurnKey K) → p.hash ≡ hash_of (arc_value p.key) → Agree (IsOpenRow eq is_clone) (found (is_open_for eq p.kind (arc_value p.key)) after_it) (opened p)
      opened_after p hashed_p =
          rw (ap first_of (found-other (is_open_for eq p.kind (arc_value p.key)) number spent ts
          (λ u is_u same. let off = ap is_open (same_turn u is_u same) ∙ facts.1 in (ap (λ b. b && is_for eq p.kind (arc_value p.key) u) off, ap (λ b. b && is_for eq p.kind (arc_value p.key) u) off))))
          (keeps.opened_is p hashed_p)

      ended_after : (m : ℕ) → Agree (IsEndedRow eq is_clone) (found (is_ended_as m) after_it) (new_ended m)
      ended_after m = ⊎_elim own other (eqb_tells m number)
        where
          other : ((m == number) ≡ false) × (m ≢ number) → Agree (IsEndedRow eq is_clone) (found (is_ended_as m) after_it) (new_ended m)
          other differs =
              let still : new_ended m ≡ ended m = spent_is m ∙ ap (λ b. cond b (retained_ended (one_less row)) (ended m)) (ne_eqb number m (λ e. differs.1 (sym e))) in
              rw (ap first_of (found-other (is_ended_as m) number spent ts (λ u is_u same. (off u same, off (spent u) same))), still) (keeps.ended_is m)
            where
              off : (u : Turn K V E) → u.name.number ≡ number → is_ended_as m u ≡ false
              off u same = ap (λ b. b && (not (is_open u) && has_ticket u)) (ne_eqb u.name.number m (λ e. differs.1 (sym e ∙ same)))

          own : ((m == number) ≡ true) × (m ≡ number) → Agree (IsEndedRow eq is_clone) (found (is_ended_as m) after_it) (new_ended m)
          own same = subst (λ n. Agree (IsEndedRow eq is_clone) (found (is_ended_as n) after_it) (new_ended n)) (sym same.1) (go (nat_lt 0 (row.unspent - 1)) refl)
            where
              now : new_ended number ≡ retained_ended (one_less row)
              now = spent_is number ∙ ap (λ b. cond b (retained_ended (one_less row)) (ended number)) (eq-eqb number number refl)

              last : has_ticket (spent t) ≡ nat_lt 0 (row.unspent - 1)
              last = ap (λ n. nat_le 1 (n - 1)) (sym the_ended.2.unspent) ∙ sym (some-left (row.unspent - 1))

              go : (b : Bool) → nat_lt 0 (row.unspent - 1) ≡ b → Agree (IsEndedRow eq is_clone) (found (is_ended_as number) after_it) (new_ended number)
              go true h =
                  let row_there : new_ended number ≡ Some (one_less row) = now ∙ ap (λ b. cond b (Some (one_less row)) None) h in
                  rw (own-found, row_there) (record { kind = the_ended.2.kind; key = the_ended.2.key; end = the_ended.2.end; unspent = ap (λ n. n - 1) the_ended.2.unspent })
                where
                  here : numbered number spent t ≡ spent t
                  here = cond-true (t.name.number == number) (spent t) t (eq-eqb t.name.number number facts.0)

                  there_now : IsIn (spent t) after_it
                  there_now = subst (λ u. IsIn u after_it) here (in_mapped (numbered number spent) t ts inside.0)

                  on_it : is_ended_as number (spent t) ≡ true
                  on_it = and_from (t.name.number == number) (not (is_open t) && has_ticket (spent t)) (eq-eqb t.name.number number facts.0) (and_from (not (is_open t)) (has_ticket (spent t)) (ap not facts.1) (last ∙ h))

                  own-found : found (is_ended_as number) after_it ≡ Some (spent t)
                  own-found = found-one (is_ended_as number) after_it (spent t) there_now on_it
                      (λ u is_u on_u. numbered-alone after_it (apart-changed (numbered number spent) (numbered-number number spent (λ v. refl)) ts sound.0) u (spent t) is_u there_now
                      (eqb-true u.name.number number (and_parts (u.name.number == number) (not (is_open u) && has_ticket u) on_u).0 ∙ sym facts.0))
              go false h =
                  let gone : new_ended number ≡ None = now ∙ ap (λ b. cond b (Some (one_less row)) None) h in
                  rw (found-none (is_ended_as number) after_it each, gone) tt
                where
                  each : (u : Turn K V E) → IsIn u after_it → is_ended_as number u ≡ false
                  each u is_u = by_was (in_numbered number spent u ts is_u)
                    where
                      by_was : (v : Turn K V E) × IsIn v ts × Was number spent v u → is_ended_as number u ≡ false
                      by_was (v, is_v, changed here e) =
                          ap (is_ended_as number) (sym e ∙ ap spent (same_turn v is_v here))
                          ∙ ap (λ b. (t.name.number == number) && (not (is_open t) && b)) (last ∙ h)
                          ∙ ap (λ b. (t.name.number == number) && b) (and-false (not (is_open t)))
                          ∙ and-false (t.name.number == number)
                      by_was (v, is_v, left other e) = ap (is_ended_as number) (sym e) ∙ ap (λ b. b && (not (is_open v) && has_ticket v)) (ne_eqb v.name.number number other)

      -- the table keeps the turns, of which that one has a ticket less
      pub leave-keeps : Represents eq is_clone hash_of after_it opened new_ended
      leave-keeps = record { opened_is = opened_after; ended_is = ended_after }

  abbrev pub is_awaited : OpenTurn V → Bool
  is_awaited row = row.number == number && nat_le 1 row.unspent

  abbrev pub is_ended_for : EndedTurn K V E → Bool
  is_ended_for row = same_kind row.key.kind q.kind && eq (arc_value row.key.key) (arc_value q.key)

  -- without either, no turn with an unspent ticket has the name
  pub no-ticket : (a : Bool) → TellsOf is_awaited (opened q) a → a ≡ false → (b : Bool) → TellsOf is_ended_for (ended number) b → b ≡ false → found (has_ticket_as eq (name_of q number)) ts ≡ None
  no-ticket a tells_a not_a b tells_b not_b = found-none (has_ticket_as eq (name_of q number)) ts (λ u is. go u is (has_ticket_as eq (name_of q number) u) refl)
    where
      go : (u : Turn K V E) → IsIn u ts → (c : Bool) → has_ticket_as eq (name_of q number) u ≡ c → has_ticket_as eq (name_of q number) u ≡ false
      go u is false h = h
      go u is true h = absurd (by_end (is_open u) refl)
        where
          its : (has_ticket u ≡ true) × (u.name.number ≡ number) × (is_for eq q.kind (arc_value q.key) u ≡ true)
          its = parts u h

          by_end : (c : Bool) → is_open u ≡ c → ⊥
          by_end true is_now =
              let on_u : is_open_for eq q.kind (arc_value q.key) u ≡ true = and_from (is_open u) (is_for eq q.kind (arc_value q.key) u) is_now its.2 in
              let first = found-one (is_open_for eq q.kind (arc_value q.key)) ts u is on_u (λ v is_v on_v. at_most_one (is_open_for eq q.kind (arc_value q.key)) ts (sound.1 q.kind (arc_value q.key)) v u is_v is on_v on_u) in
              let row = some-agree (IsOpenRow eq is_clone) (found (is_open_for eq q.kind (arc_value q.key)) ts) (opened q) u (keeps.opened_is q hashed) first in
              let yes : is_awaited row.0 ≡ true = and_from (row.0.number == number) (nat_le 1 row.0.unspent) (eq-eqb row.0.number number (row.2.number ∙ its.1)) (ap (nat_le 1) row.2.unspent ∙ its.0) in
              let off : true ≡ false = sym yes ∙ fails-there is_awaited (opened q) a tells_a not_a row.0 row.1 in cc
          by_end false is_now =
              let on_u : is_ended_as number u ≡ true = and_from (u.name.number == number) (not (is_open u) && has_ticket u) (eq-eqb u.name.number number its.1) (and_from (not (is_open u)) (has_ticket u) (ap not is_now) its.0) in
              let first = found-one (is_ended_as number) ts u is on_u (λ v is_v on_v. numbered-alone ts sound.0 v u is_v is (eqb-true v.name.number number (and_parts (v.name.number == number) (not (is_open v) && has_ticket v) on_v).0 ∙ sym its.1)) in
              let row = some-agree (IsEndedRow eq is_clone) (found (is_ended_as number) ts) (ended number) u (keeps.ended_is number) first in
              let both = and_parts (same_kind u.name.kind q.kind) (eq u.name.key (arc_value q.key)) its.2 in
              let keys : eq (arc_value row.0.key.key) (arc_value q.key) ≡ true = sym (laws.congr u.name.key (arc_value row.0.key.key) (arc_value q.key) row.2.key) ∙ both.1 in
              let yes : is_ended_for row.0 ≡ true = and_from (same_kind row.0.key.kind q.kind) (eq (arc_value row.0.key.key) (arc_value q.key)) (subst (λ k. same_kind k q.kind ≡ true) (sym row.2.kind) both.0) keys in
              let off : true ≡ false = sym yes ∙ fails-there is_ended_for (ended number) b tells_b not_b row.0 row.1 in cc
