-- From rows by their numbers to the writes that they store, by their keys.
use Rattle.std.proofs.Common.{◌≡◌, ℕ, ◌==◌, Bool, true, false, cond, ◌&&◌, List, [], ◌∷◌, ◌++◌, Option, Some, refl, sym, ap, ◌∙◌, eq-eqb}
use Rattle.std.specs.Arc.{arc_value}
use Rattle.std.specs.List.{filter, AllByRecursion}
use Rattle.std.specs.Option.{option_to_list}
use Rattle.std.proofs.lemmas.List.{map-append}
use Rattle.std.proofs.lemmas.List.Elements.{filter-append}
use Rattle.moka_model.specs.Lives.{Write}
use Rattle.moka_model.specs.OrderLaws.{writes_of, held, HasOneEach}
use Rattle.moka_model.proofs.Callers.{alone}
use Rattle.moka_rows.specs.declared.rows.Row.{Row}
use Rattle.moka_rows.specs.Rows.{row_under, is_row_of, IsRowOf, NoneIsRowOf}
use Rattle.moka_rows.proofs.Callers.{split_at_row}
use Rattle.moka_table.specs.Table.{Contents, entries, stored_write, stored_writes}
use Rattle.moka_state.specs.State.{stored_orders}

-- both of two tests that hold together
pub and-first : (a b : Bool) → (a && b) ≡ true → a ≡ true
and-first true b h = refl
and-first false b h = h

and-second : (a b : Bool) → (a && b) ≡ true → b ≡ true
and-second true b h = h
and-second false b h = let no : false ≡ true = h in cc

-- the row of a key has an equal key
pub same-key : {K V : Type 0} (eq : K → K → Bool) (k : K) (hash : ℕ) (row : Row K V) → IsRowOf eq k hash row → eq (arc_value row.key) k ≡ true
same-key eq k hash row is = and-second (row.hash == hash) (eq (arc_value row.key) k) is

module _ {K V : Type 0} where
  -- the stored writes around a row
  pub stored-around : (n : ℕ) (before after : List (ℕ × Row K V)) (row : Row K V) → stored_writes (before ++ (n, row) ∷ after) ≡ stored_writes before ++ stored_write row ∷ stored_writes after
  stored-around n before after row = map-append (λ (p : ℕ × Row K V). stored_write p.1) before ((n, row) ∷ after)

  pub stored-append : (ps qs : List (ℕ × Row K V)) → stored_writes (ps ++ qs) ≡ stored_writes ps ++ stored_writes qs
  stored-append ps qs = map-append (λ (p : ℕ × Row K V). stored_write p.1) ps qs

module _ {K V : Type 0} (eq : K → K → Bool) where
  -- each key has one of these writes at most
  abbrev pub OneEach : List (Write K V) → Type 0
  OneEach ws = (q : K) → (o : Option (Write K V)) × (writes_of eq q ws ≡ option_to_list o)

  -- the writes of a key around one of them
  around-equal : (q : K) (xs ys : List (Write K V)) (w : Write K V) → eq w.key q ≡ true → writes_of eq q (xs ++ w ∷ ys) ≡ writes_of eq q xs ++ w ∷ writes_of eq q ys
  around-equal q xs ys w h = filter-append (λ (v : Write K V). eq v.key q) xs (w ∷ ys) ∙ ap (λ t. writes_of eq q xs ++ cond t (w ∷ writes_of eq q ys) (writes_of eq q ys)) h

  module _ (q : K) (xs ys : List (Write K V)) (w : Write K V) (one : OneEach (xs ++ w ∷ ys)) (same : eq w.key q ≡ true) where
    none-beside : (writes_of eq q xs ≡ []) × (writes_of eq q ys ≡ [])
    none-beside = alone (writes_of eq q xs) (writes_of eq q ys) w (one q).0 (sym (around-equal q xs ys w same) ∙ (one q).1)

    -- around the one write of a key no other has that key
    pub rest-empty : writes_of eq q (xs ++ ys) ≡ []
    rest-empty = filter-append (λ (v : Write K V). eq v.key q) xs ys ∙ ap (λ l. l ++ writes_of eq q ys) none-beside.0 ∙ none-beside.1

    -- and it is found for it
    writes_of-found : writes_of eq q (xs ++ w ∷ ys) ≡ w ∷ []
    writes_of-found = around-equal q xs ys w same ∙ ap (λ l. l ++ w ∷ writes_of eq q ys) none-beside.0 ∙ ap (λ l. w ∷ l) none-beside.1

  -- the rows store the writes of both orders
  held-rows : (k : K) (contents : Contents K V) → held eq k (stored_orders contents) ≡ writes_of eq k (stored_writes (entries contents))
  held-rows k contents = ap (writes_of eq k) (sym (stored-append contents.admitted contents.waiting))

  pub one-rows : (contents : Contents K V) → HasOneEach eq (stored_orders contents) → OneEach (stored_writes (entries contents))
  one-rows contents one q = ((one q).0, sym (held-rows q contents) ∙ (one q).1)

  -- the row that is found for a key stores the one write of the key
  pub held-row : (contents : Contents K V) → HasOneEach eq (stored_orders contents) → (k : K) (n : ℕ) (row : Row K V) → row_under n (entries contents) ≡ Some row → eq (arc_value row.key) k ≡ true
      → held eq k (stored_orders contents) ≡ stored_write row ∷ []
  held-row contents one k n row there same =
      let c = split_at_row n row (entries contents) there in
      let whole = ap stored_writes c.2.whole ∙ stored-around n c.0 c.1 row in
      held-rows k contents ∙ ap (writes_of eq k) whole
      ∙ writes_of-found k (stored_writes c.0) (stored_writes c.1) (stored_write row) (rw whole at (one-rows contents one)) same

  -- where no row is that of the key, the key has no write
  writes_of-absent : (hash_of : K → ℕ) (k : K) (ps : List (ℕ × Row K V)) → ((a b : K) → eq a b ≡ true → hash_of a ≡ hash_of b)
      → AllByRecursion (λ p. p.1.hash ≡ hash_of (arc_value p.1.key)) ps → NoneIsRowOf eq k (hash_of k) ps → writes_of eq k (stored_writes ps) ≡ []
  writes_of-absent hash_of k [] respects hashed none = refl
  writes_of-absent hash_of k (p ∷ ps) respects hashed none = go (eq (arc_value p.1.key) k) refl (is_row_of eq k (hash_of k) p.1) refl (λ h. writes_of-absent hash_of k ps respects hashed.1 h)
    where
      go : (t : Bool) → eq (arc_value p.1.key) k ≡ t → (r : Bool) → is_row_of eq k (hash_of k) p.1 ≡ r → (NoneIsRowOf eq k (hash_of k) ps → writes_of eq k (stored_writes ps) ≡ [])
          → writes_of eq k (stored_writes (p ∷ ps)) ≡ []
      go true h true r more = let found : p ∷ filter (λ (q : ℕ × Row K V). is_row_of eq k (hash_of k) q.1) ps ≡ [] = rw r at none in cc
      go true h false r more = let hash = eq-eqb p.1.hash (hash_of k) (hashed.0 ∙ respects (arc_value p.1.key) k h) in let found : true ≡ false = rw (hash, h) at r in cc
      go false h true r more = let found : p ∷ filter (λ (q : ℕ × Row K V). is_row_of eq k (hash_of k) q.1) ps ≡ [] = rw r at none in cc
      go false h false r more = rw h (more (rw r at none))

  pub held-absent : (contents : Contents K V) (hash_of : K → ℕ) → ((a b : K) → eq a b ≡ true → hash_of a ≡ hash_of b) → AllByRecursion (λ p. p.1.hash ≡ hash_of (arc_value p.1.key)) (entries contents)
      → (k : K) (hash : ℕ) → hash ≡ hash_of k → NoneIsRowOf eq k hash (entries contents) → held eq k (stored_orders contents) ≡ []
  held-absent contents hash_of respects hashed k hash is none = held-rows k contents ∙ writes_of-absent hash_of k (entries contents) respects hashed (rw is at none)
