-- The turns of a table's entries are those that its lookups find.
use Rattle.std.proofs.Common.{◌≡◌, ℕ, ◌==◌, nat_eq, Bool, true, false, cond, ◌&&◌, Option, Some, None, List, [], ◌∷◌, ◌++◌, map, option_map, filter, refl, sym, ap, ◌∙◌, subst, append-nil}
use Rattle.std.specs.Arc.{arc_value}
use Rattle.std.specs.Cmp.{IsEquivalence}
use Rattle.std.specs.Map.{lookup}
use Rattle.std.proofs.lemmas.Bool.{eqb-true}
use Rattle.std.proofs.lemmas.List.Elements.{filter-append}
use denote.Enum.Bare.{sameb}
use denote.RawPtr.{null_ptr}
use Rattle.moka_model.specs.contracts.turns.Kind.{the_type}
use Rattle.moka_model.specs.declared.turns.Kind.{Kind}
use Rattle.moka_model.specs.declared.turns.Kind.TheVariants.{With, Optionally, Try, Compute}
use Rattle.moka_model.specs.Turns.{Turn, Agree, same_kind, is_open_for, is_ended_as, has_ended_as, first_of, found}
use Rattle.moka_model.specs.Calls.{IsOpenTurnOf, IsEndedTurnOf, Holds}
use Rattle.moka_turns.specs.declared.turn_key.TurnKey.{TurnKey}
use Rattle.moka_turns.specs.declared.table.OpenTurn.{OpenTurn}
use Rattle.moka_turns.specs.declared.table.EndedTurn.{EndedTurn}
use Rattle.moka_turns.specs.TurnKey.{same_key}
use Rattle.moka_turns.proofs.Abandons.{kinds-same}
use Rattle.moka_turns.specs.Represents.{open_turn, ended_turn, is_hashed, turns_in, IsOpenRow, IsEndedRow, Represents}

same_kind-sym : (a b : Kind) → same_kind a b ≡ same_kind b a
same_kind-sym With With = refl
same_kind-sym With Optionally = refl
same_kind-sym With Try = refl
same_kind-sym With Compute = refl
same_kind-sym Optionally With = refl
same_kind-sym Optionally Optionally = refl
same_kind-sym Optionally Try = refl
same_kind-sym Optionally Compute = refl
same_kind-sym Try With = refl
same_kind-sym Try Optionally = refl
same_kind-sym Try Try = refl
same_kind-sym Try Compute = refl
same_kind-sym Compute With = refl
same_kind-sym Compute Optionally = refl
same_kind-sym Compute Try = refl
same_kind-sym Compute Compute = refl

by-false : (a b : Bool) → (a && (b && false)) ≡ false
by-false true true = refl
by-false true false = refl
by-false false b = refl

-- the table entry of an open turn
abbrev pub row_of : {K V E : Type 0} → Turn K V E → OpenTurn V
row_of t = record { number = t.name.number; shown = t.shown; saved = t.kept; unspent = t.unspent }

module _ {K V : Type 0} (E : Type 0) (eq : K → K → Bool) (laws : IsEquivalence eq) (hash_of : K → ℕ) (respects : (a b : K) → eq a b ≡ true → hash_of a ≡ hash_of b) where
  module _ (q : TurnKey K) (hashed : q.hash ≡ hash_of (arc_value q.key)) where
    -- an entry with the hash of its key that is found by kind and key is one that is found by the whole table key
    same-test : (e : TurnKey K × OpenTurn V) → (is_hashed hash_of e && is_open_for eq q.kind (arc_value q.key) (open_turn {E = E} e)) ≡ same_key eq q e.0
    same-test e = go (eq (arc_value q.key) (arc_value e.0.key)) refl
      where
        go : (b : Bool) → eq (arc_value q.key) (arc_value e.0.key) ≡ b → (is_hashed hash_of e && (same_kind e.0.kind q.kind && eq (arc_value e.0.key) (arc_value q.key))) ≡ (q.hash == e.0.hash && (same_kind q.kind e.0.kind && eq (arc_value q.key) (arc_value e.0.key)))
        go false h =
            ap (λ b. is_hashed hash_of e && (same_kind e.0.kind q.kind && b)) (laws.symm (arc_value e.0.key) (arc_value q.key) ∙ h)
            ∙ by-false (is_hashed hash_of e) (same_kind e.0.kind q.kind)
            ∙ sym (by-false (q.hash == e.0.hash) (same_kind q.kind e.0.kind))
            ∙ sym (ap (λ b. q.hash == e.0.hash && (same_kind q.kind e.0.kind && b)) h)
        go true h =
            ap (λ n. n == e.0.hash && (same_kind e.0.kind q.kind && eq (arc_value e.0.key) (arc_value q.key))) (sym (hashed ∙ respects (arc_value q.key) (arc_value e.0.key) h))
            ∙ ap (λ k. q.hash == e.0.hash && (k && eq (arc_value e.0.key) (arc_value q.key))) (same_kind-sym e.0.kind q.kind)
            ∙ ap (λ b. q.hash == e.0.hash && (same_kind q.kind e.0.kind && b)) (laws.symm (arc_value e.0.key) (arc_value q.key))

    open-found : (es : List (TurnKey K × OpenTurn V)) → option_map row_of (found (is_open_for eq q.kind (arc_value q.key)) (map (open_turn {E = E}) (filter (is_hashed hash_of) es))) ≡ lookup (same_key eq q) es
    open-found [] = refl
    open-found (e ∷ es) = go (is_hashed hash_of e) refl (is_open_for eq q.kind (arc_value q.key) (open_turn {E = E} e)) refl (open-found es)
      where
        go : (b : Bool) → is_hashed hash_of e ≡ b → (c : Bool) → is_open_for eq q.kind (arc_value q.key) (open_turn {E = E} e) ≡ c
            → option_map row_of (found (is_open_for eq q.kind (arc_value q.key)) (map (open_turn {E = E}) (filter (is_hashed hash_of) es))) ≡ lookup (same_key eq q) es
            → option_map row_of (found (is_open_for eq q.kind (arc_value q.key)) (map (open_turn {E = E}) (cond b (e ∷ filter (is_hashed hash_of) es) (filter (is_hashed hash_of) es)))) ≡ cond (same_key eq q e.0) (Some e.1) (lookup (same_key eq q) es)
        go false h c d more =
            let is : same_key eq q e.0 ≡ false = sym (same-test e) ∙ ap (λ b. b && is_open_for eq q.kind (arc_value q.key) (open_turn {E = E} e)) h in
            more ∙ sym (ap (λ t. cond t (Some e.1) (lookup (same_key eq q) es)) is)
        go true h c d more =
            let is : same_key eq q e.0 ≡ c = sym (same-test e) ∙ ap (λ b. b && is_open_for eq q.kind (arc_value q.key) (open_turn {E = E} e)) h ∙ d in
            ap (λ t. option_map row_of (first_of (cond t (open_turn e ∷ filter (is_open_for eq q.kind (arc_value q.key)) (map (open_turn {E = E}) (filter (is_hashed hash_of) es))) (filter (is_open_for eq q.kind (arc_value q.key)) (map (open_turn {E = E}) (filter (is_hashed hash_of) es)))))) d
            ∙ either c more
            ∙ sym (ap (λ t. cond t (Some e.1) (lookup (same_key eq q) es)) is)
          where
            either : (t : Bool) → option_map row_of (found (is_open_for eq q.kind (arc_value q.key)) (map (open_turn {E = E}) (filter (is_hashed hash_of) es))) ≡ lookup (same_key eq q) es
                → option_map row_of (first_of (cond t (open_turn e ∷ filter (is_open_for eq q.kind (arc_value q.key)) (map (open_turn {E = E}) (filter (is_hashed hash_of) es))) (filter (is_open_for eq q.kind (arc_value q.key)) (map (open_turn {E = E}) (filter (is_hashed hash_of) es))))) ≡ cond t (Some e.1) (lookup (same_key eq q) es)
            either true is = refl
            either false is = is

module _ {X T : Type 0} (test : T → Bool) (f : X → T) (none : (x : X) → test (f x) ≡ false) where
  none-mapped : (xs : List X) → filter test (map f xs) ≡ []
  none-mapped [] = refl
  none-mapped (x ∷ xs) = ap (λ b. cond b (f x ∷ filter test (map f xs)) (filter test (map f xs))) (none x) ∙ none-mapped xs

and-none : (b : Bool) → (b && false) ≡ false
and-none true = refl
and-none false = refl

and-all : (b : Bool) → (b && true) ≡ b
and-all true = refl
and-all false = refl

module _ {K V E : Type 0} where
  ended-found : (m : ℕ) (es : List (ℕ × EndedTurn K V E)) → found (has_ended_as m) (map ended_turn es) ≡ option_map (λ (row : EndedTurn K V E). ended_turn (m, row)) (lookup (nat_eq m) es)
  ended-found m [] = refl
  ended-found m (e ∷ es) = ap (λ b. first_of (cond b (ended_turn e ∷ filter (has_ended_as m) (map ended_turn es)) (filter (has_ended_as m) (map ended_turn es)))) (and-all (m == e.0)) ∙ go (m == e.0) refl (ended-found m es)
    where
      go : (b : Bool) → (m == e.0) ≡ b → found (has_ended_as m) (map ended_turn es) ≡ option_map (λ (row : EndedTurn K V E). ended_turn (m, row)) (lookup (nat_eq m) es)
          → first_of (cond b (ended_turn e ∷ filter (has_ended_as m) (map ended_turn es)) (filter (has_ended_as m) (map ended_turn es))) ≡ option_map (λ (row : EndedTurn K V E). ended_turn (m, row)) (cond b (Some e.1) (lookup (nat_eq m) es))
      go false h more = more
      go true h more = ap (λ n. Some (ended_turn (n, e.1))) (sym (eqb-true m e.0 h))

module _ {K V E : Type 0} (eq : K → K → Bool) (laws : IsEquivalence eq) (is_clone : V → V → Type 0) (hash_of : K → ℕ) (respects : (a b : K) → eq a b ≡ true → hash_of a ≡ hash_of b)
    (opened : List (TurnKey K × OpenTurn V)) (ended : List (ℕ × EndedTurn K V E)) where
  all-open : (kind : Kind) (k : K) → found (is_open_for eq kind k) (turns_in hash_of opened ended) ≡ found (is_open_for eq kind k) (map (open_turn {E = E}) (filter (is_hashed hash_of) opened))
  all-open kind k =
      ap first_of (filter-append (is_open_for eq kind k) (map open_turn (filter (is_hashed hash_of) opened)) (map ended_turn ended)
      ∙ ap (λ l. filter (is_open_for eq kind k) (map (open_turn {E = E}) (filter (is_hashed hash_of) opened)) ++ l) (none-mapped (is_open_for eq kind k) ended_turn (λ e. refl) ended)
      ∙ append-nil (filter (is_open_for eq kind k) (map open_turn (filter (is_hashed hash_of) opened))))

  all-ended : (m : ℕ) → found (has_ended_as m) (turns_in hash_of opened ended) ≡ option_map (λ (row : EndedTurn K V E). ended_turn (m, row)) (lookup (nat_eq m) ended)
  all-ended m =
      ap first_of (filter-append (has_ended_as m) (map open_turn (filter (is_hashed hash_of) opened)) (map ended_turn ended)
      ∙ ap (λ l. l ++ filter (has_ended_as m) (map ended_turn ended)) (none-mapped (has_ended_as m) (open_turn {E = E}) (λ e. and-none (m == e.1.number)) (filter (is_hashed hash_of) opened)))
      ∙ ended-found m ended

  by-row : (a b : Option (Turn K V E)) → Agree (IsOpenRow eq is_clone) a (option_map row_of b) → Agree (IsOpenTurnOf is_clone) a b
  by-row None None is = tt
  by-row None (Some b) is = absurd is
  by-row (Some a) None is = absurd is
  by-row (Some a) (Some b) is = record { number = is.number; shown = is.shown; kept = is.saved; unspent = is.unspent }

  by-turn : (a b : Option (Turn K V E)) → Agree (IsOpenTurnOf is_clone) a b → Agree (IsOpenRow eq is_clone) a (option_map row_of b)
  by-turn None None is = tt
  by-turn None (Some b) is = absurd is
  by-turn (Some a) None is = absurd is
  by-turn (Some a) (Some b) is = record { number = is.number; shown = is.shown; saved = is.kept; unspent = is.unspent }

  by-ended-row : (m : ℕ) (a : Option (Turn K V E)) (b : Option (EndedTurn K V E)) → Agree (IsEndedRow eq is_clone) a b → Agree (IsEndedTurnOf eq is_clone) a (option_map (λ (row : EndedTurn K V E). ended_turn (m, row)) b)
  by-ended-row m None None is = tt
  by-ended-row m None (Some b) is = absurd is
  by-ended-row m (Some a) None is = absurd is
  by-ended-row m (Some a) (Some b) is = record { kind = is.kind; key = is.key; end = is.end; unspent = is.unspent }

  by-ended-turn : (m : ℕ) (a : Option (Turn K V E)) (b : Option (EndedTurn K V E)) → Agree (IsEndedTurnOf eq is_clone) a (option_map (λ (row : EndedTurn K V E). ended_turn (m, row)) b) → Agree (IsEndedRow eq is_clone) a b
  by-ended-turn m None None is = tt
  by-ended-turn m None (Some b) is = absurd is
  by-ended-turn m (Some a) None is = absurd is
  by-ended-turn m (Some a) (Some b) is = record { kind = is.kind; key = is.key; end = is.end; unspent = is.unspent }

  -- what a table keeps, by its lookups, is what a state keeps, by kinds and keys
  pub keeps-holds : (ts : List (Turn K V E)) → Represents eq is_clone hash_of ts (λ q. lookup (same_key eq q) opened) (λ m. lookup (nat_eq m) ended) → Holds eq is_clone ts (turns_in hash_of opened ended)
  keeps-holds ts keeps = record {
    opened = λ kind k.
        let q : TurnKey K = record { hash = hash_of k; kind = kind; key = record { ptr = null_ptr; value = k } } in
        by-row (found (is_open_for eq kind k) ts) (found (is_open_for eq kind k) (turns_in hash_of opened ended))
        (subst (Agree (IsOpenRow eq is_clone) (found (is_open_for eq kind k) ts)) (sym (ap (option_map row_of) (all-open kind k) ∙ open-found E eq laws hash_of respects q refl opened)) (keeps.opened_is q refl));
    ended = λ m.
        subst (Agree (IsEndedTurnOf eq is_clone) (found (is_ended_as m) ts)) (sym (all-ended m))
        (by-ended-row m (found (is_ended_as m) ts) (lookup (nat_eq m) ended) (keeps.ended_is m));
  }

  -- and conversely
  pub holds-keeps : (ts : List (Turn K V E)) → Holds eq is_clone ts (turns_in hash_of opened ended) → Represents eq is_clone hash_of ts (λ q. lookup (same_key eq q) opened) (λ m. lookup (nat_eq m) ended)
  holds-keeps ts holds = record {
    opened_is = λ q hashed.
        subst (Agree (IsOpenRow eq is_clone) (found (is_open_for eq q.kind (arc_value q.key)) ts)) (ap (option_map row_of) (all-open q.kind (arc_value q.key)) ∙ open-found E eq laws hash_of respects q hashed opened)
        (by-turn (found (is_open_for eq q.kind (arc_value q.key)) ts) (found (is_open_for eq q.kind (arc_value q.key)) (turns_in hash_of opened ended)) (holds.opened q.kind (arc_value q.key)));
    ended_is = λ m.
        by-ended-turn m (found (is_ended_as m) ts) (lookup (nat_eq m) ended)
        (subst (Agree (IsEndedTurnOf eq is_clone) (found (is_ended_as m) ts)) (all-ended m) (holds.ended m));
  }

module _ {K : Type 0} (eq : K → K → Bool) where
  -- whether two table keys are equal, as their type compares them
  abbrev pub is_at : TurnKey K → TurnKey K → Bool
  is_at q p = q.hash == p.hash && (sameb the_type q.kind p.kind && eq (arc_value q.key) (arc_value p.key))

  lookup-kinds : {X : Type 0} (q : TurnKey K) (es : List (TurnKey K × X)) → lookup (is_at q) es ≡ lookup (same_key eq q) es
  lookup-kinds q [] = refl
  lookup-kinds q (e ∷ es) =
      ap (λ b. cond (q.hash == e.0.hash && (b && eq (arc_value q.key) (arc_value e.0.key))) (Some e.1) (lookup (is_at q) es)) (kinds-same q.kind e.0.kind)
      ∙ ap (cond (same_key eq q e.0) (Some e.1)) (lookup-kinds q es)

module _ {K V E : Type 0} (eq : K → K → Bool) (laws : IsEquivalence eq) (is_clone : V → V → Type 0) (hash_of : K → ℕ) (respects : (a b : K) → eq a b ≡ true → hash_of a ≡ hash_of b)
    (opened : List (TurnKey K × OpenTurn V)) (ended : List (ℕ × EndedTurn K V E)) where
  -- the open turn of a kind and key is the entry that the table finds for them and for the key's hash
  pub table-row : (q : TurnKey K) → q.hash ≡ hash_of (arc_value q.key) → option_map row_of (found (is_open_for eq q.kind (arc_value q.key)) (turns_in {E = E} hash_of opened ended)) ≡ lookup (is_at eq q) opened
  table-row q hashed =
      ap (option_map row_of) (all-open eq laws is_clone hash_of respects opened ended q.kind (arc_value q.key))
      ∙ open-found E eq laws hash_of respects q hashed opened
      ∙ sym (lookup-kinds eq q opened)

module _ {K V E : Type 0} (eq : K → K → Bool) (laws : IsEquivalence eq) (is_clone : V → V → Type 0) (hash_of : K → ℕ) (respects : (a b : K) → eq a b ≡ true → hash_of a ≡ hash_of b)
    (opened : List (TurnKey K × OpenTurn V)) (ended : List (ℕ × EndedTurn K V E)) (ts : List (Turn K V E)) where
  -- the same for a table's own lookups
  pub table-holds : Represents eq is_clone hash_of ts (λ q. lookup (is_at eq q) opened) (λ m. lookup (nat_eq m) ended) → Holds eq is_clone ts (turns_in hash_of opened ended)
  table-holds keeps = keeps-holds eq laws is_clone hash_of respects opened ended ts (record {
    opened_is = λ q hashed. subst (Agree (IsOpenRow eq is_clone) (found (is_open_for eq q.kind (arc_value q.key)) ts)) (lookup-kinds eq q opened) (keeps.opened_is q hashed);
    ended_is = keeps.ended_is;
  })

  pub table-keeps : Holds eq is_clone ts (turns_in hash_of opened ended) → Represents eq is_clone hash_of ts (λ q. lookup (is_at eq q) opened) (λ m. lookup (nat_eq m) ended)
  table-keeps holds =
      let keeps = holds-keeps eq laws is_clone hash_of respects opened ended ts holds in
      record {
        opened_is = λ q hashed. subst (Agree (IsOpenRow eq is_clone) (found (is_open_for eq q.kind (arc_value q.key)) ts)) (sym (lookup-kinds eq q opened)) (keeps.opened_is q hashed);
        ended_is = keeps.ended_is;
      }

-- an empty table keeps no turns
pub nothing-kept : {K V E : Type 0} (eq : K → K → Bool) (is_clone : V → V → Type 0) (hash_of : K → ℕ) (opened : List (TurnKey K × OpenTurn V)) (ended : List (ℕ × EndedTurn K V E)) → opened ≡ [] → ended ≡ [] → Holds eq is_clone [] (turns_in hash_of opened ended)
nothing-kept eq is_clone hash_of opened ended none_open none_ended = rw (none_open, none_ended) (record { opened = λ kind k. tt; ended = λ m. tt })
