-- A lookup along the chain of a hash.
use Rattle.std.proofs.Common.{◌≡◌, ℕ, suc, ◌+◌, ◌-◌, ◌^◌, ◌<◌, ◌≤◌, ◌==◌, ◌&&◌, Bool, true, false, List, [], ◌∷◌, ◌++◌, length, map, filter, Option, Some, None, IsSome, IfSome, refl, sym, ap, subst, ◌∙◌, arith, inl, ⊎_elim, append_assoc, length-append}
use Rattle.std.specs.Arc.{arc_value}
use Rattle.std.proofs.lemmas.Bool.{cases_eq, ne_eqb, eq-eqb}
use Rattle.slab.specs.Slab.{Slab}
use Rattle.moka_rows.specs.Rows.{row_under, is_row_of, IsRowOf, NoneIsRowOf}
use Rattle.moka_rows.specs.declared.rows.Row.{Row}
use Rattle.moka_index.specs.Paths.{IsAmong}
use Rattle.moka_index.specs.RowIndex.{IsLinked, admitted_of, waiting_of, numbers_of, hash_at, first_at, same_at, chain_of}
use Rattle.moka_index.specs.declared.row_index.RowIndex.{RowIndex}
use Rattle.moka_index.proofs.Callers.{IsLine, among-back, among-parts, no-more, few-linked, linked-chains, linked-among, among-linked}
use Rattle.moka_slab.specs.NumberedRows.{row_at, numbered}
use Rattle.moka_slab.specs.Tied.{IsTied, all_rows}
use Rattle.moka_slab.proofs.NumberedLemmas.{some-of, filter-in, filter-out, none-pass, passing, passes}
use Rattle.moka_slab.proofs.TiedLemmas.{all-is, under-all}

-- a filtered list is not longer than the list
filter-few : {R : Type 0} (test : ℕ × R → Bool) (ps : List (ℕ × R)) → length (filter test ps) ≤ length ps
filter-few test [] = omega arith
filter-few test (p ∷ ps) = go (test p) refl (filter-few test ps)
  where
    go : (b : Bool) → test p ≡ b → length (filter test ps) ≤ length ps → length (filter test (p ∷ ps)) ≤ length (p ∷ ps)
    go true is few = let kept = ap length (filter-in test p ps is) in omega (arith, kept, few)
    go false is few = let same = ap length (filter-out test p ps is) in omega (arith, same, few)

length-numbers : {R : Type 0} (ps : List (ℕ × R)) → length (map (λ p. p.0) ps) ≡ length ps
length-numbers [] = refl
length-numbers (p ∷ ps) = ap suc (length-numbers ps)

module _ {K V : Type 0} (rows : Slab (Row K V)) (l : RowIndex) (t : IsTied rows l) (eq : K → K → Bool) (key : K) (hash : ℕ) where
  -- the state of a lookup: what it has seen, and where it continues
  pub record Sought (at : Option ℕ) (reads : ℕ) : Type 0 where
    pub seen : List ℕ
    pub rest : List ℕ
    pub is : chain_of l hash ≡ seen ++ rest
    pub line : IsLine (same_at l) at rest
    pub counted : reads ≡ length seen
    pub others : (k : ℕ) (r : Row K V) → IsAmong k seen → row_at rows k ≡ Some r → eq (arc_value r.key) key ≡ false

  pub sought-first : Sought (first_at l hash) 0
  sought-first = record { seen = []; rest = chain_of l hash; is = refl; line = (linked-chains l).line hash; counted = refl; others = λ k r q is. absurd q }

  -- a number of the chain is linked, and its row has the hash
  pub member : (k : ℕ) → IsAmong k (chain_of l hash) → IsLinked l k × (hash_at l k ≡ hash)
  member k q = let m = (linked-chains l).members hash k q in (linked-among l k m.0, m.1)

  -- a chain has no more numbers than there are rows of the hash
  chain-few : length (chain_of l hash) ≤ length (filter (λ p. p.1.hash == hash) (all_rows rows l))
  chain-few =
      let kept = filter (λ p. p.1.hash == hash) (numbered (row_at rows) (numbers_of l)) in
      let few = no-more (chain_of l hash) (passing (λ r. r.hash == hash) (numbered (row_at rows) (numbers_of l))) ((linked-chains l).apart hash) one in
      let len = length-numbers kept in
      let same : length (filter (λ p. p.1.hash == hash) (all_rows rows l)) ≡ length kept = ap (λ ps. length (filter (λ p. p.1.hash == hash) ps)) (all-is rows l) in
      omega (arith, few, len, same)
    where
      one : (k : ℕ) → IsAmong k (chain_of l hash) → IsAmong k (passing (λ r. r.hash == hash) (numbered (row_at rows) (numbers_of l)))
      one k q =
          let m = member k q in
          let r = some-of (row_at rows k) (t.stored k m.0) in
          let h : r.0.hash ≡ hash = t.hashed k r.0 m.0 r.1 ∙ m.1 in
          passes (row_at rows) (λ r. r.hash == hash) k r.0 (numbers_of l) (among-linked l k m.0) r.1 (eq-eqb r.0.hash hash h)

  -- a lookup that continues with a number
  pub record Going (reads k : ℕ) : Type 0 where
    pub behind : List ℕ
    pub seen : List ℕ
    pub is : chain_of l hash ≡ seen ++ k ∷ behind
    pub counted : reads ≡ length seen
    pub line : IsLine (same_at l) (same_at l k) behind
    pub linked : IsLinked l k
    pub hashed : hash_at l k ≡ hash
    pub others : (j : ℕ) (r : Row K V) → IsAmong j seen → row_at rows j ≡ Some r → eq (arc_value r.key) key ≡ false

  pub going : (at : Option ℕ) (reads k : ℕ) → at ≡ Some k → Sought at reads → Going reads k
  going at reads k some s = go s.rest s.is s.line
    where
      go : (rest : List ℕ) → chain_of l hash ≡ s.seen ++ rest → IsLine (same_at l) at rest → Going reads k
      go [] is line = let both : Some k ≡ None = sym some ∙ line in absurd cc
      go (x ∷ xs) is line =
          let both : Some x ≡ Some k = sym line.0 ∙ some in
          let e : x ≡ k = cc in
          let here : chain_of l hash ≡ s.seen ++ k ∷ xs = is ∙ ap (λ z. s.seen ++ z ∷ xs) e in
          let m = member k (subst (IsAmong k) (sym here) (among-back k s.seen (k ∷ xs) (inl refl))) in
          record {
            behind = xs;
            seen = s.seen;
            is = here;
            counted = s.counted;
            line = subst (λ z. IsLine (same_at l) (same_at l z) xs) e line.1;
            linked = m.0;
            hashed = m.1;
            others = s.others;
          }

  -- it has read fewer rows than the chain has numbers
  pub going-few : (reads k : ℕ) → Going reads k → reads < length (chain_of l hash)
  going-few reads k w =
      let whole : length (chain_of l hash) ≡ length w.seen + length (k ∷ w.behind) = ap length w.is ∙ length-append w.seen (k ∷ w.behind) in
      omega (arith, whole, w.counted)

  -- the row has another key, and the lookup continues
  pub sought-next : (reads k : ℕ) (r : Row K V) (w : Going reads k) → row_at rows k ≡ Some r → eq (arc_value r.key) key ≡ false → Sought (same_at l k) (reads + 1)
  sought-next reads k r w at other = record {
    seen = w.seen ++ k ∷ [];
    rest = w.behind;
    is = w.is ∙ sym (append_assoc w.seen (k ∷ []) w.behind);
    line = w.line;
    counted = let more : length (w.seen ++ k ∷ []) ≡ length w.seen + 1 = length-append w.seen (k ∷ []) in omega (arith, more, w.counted);
    others = λ j x q is.
        ⊎_elim (λ s. w.others j x s is)
        (λ s. ⊎_elim (λ e. let both : Some x ≡ Some r = sym is ∙ ap (row_at rows) (sym e) ∙ at in let f : x ≡ r = cc in ap (λ z. eq (arc_value z.key) key) f ∙ other) (λ z. absurd z) s)
        (among-parts j w.seen (k ∷ []) q);
  }

  -- it has found the row
  pub sought-found : (reads k : ℕ) (r : Row K V) (w : Going reads k) → row_at rows k ≡ Some r → eq (arc_value r.key) key ≡ true → IfSome (row_under k (all_rows rows l)) (IsRowOf eq key hash)
  sought-found reads k r w at same =
      let hashed : r.hash ≡ hash = t.hashed k r w.linked at ∙ w.hashed in
      rw (under-all rows l k r w.linked at) (ap (λ b. b && eq (arc_value r.key) key) (eq-eqb r.hash hash hashed) ∙ same)

  pub sought-stored : (reads k : ℕ) (w : Going reads k) → IsSome (row_under k (all_rows rows l))
  sought-stored reads k w = let r = some-of (row_at rows k) (t.stored k w.linked) in subst IsSome (sym (under-all rows l k r.0 w.linked r.1)) refl

  -- it has read the whole chain
  pub sought-all : (reads : ℕ) → Sought None reads → (chain_of l hash ≡ chain_of l hash) × (reads ≡ length (chain_of l hash)) × ((k : ℕ) (r : Row K V) → IsAmong k (chain_of l hash) → row_at rows k ≡ Some r → eq (arc_value r.key) key ≡ false)
  sought-all reads s = go s.rest s.is s.line
    where
      go : (rest : List ℕ) → chain_of l hash ≡ s.seen ++ rest → IsLine (same_at l) None rest
          → (chain_of l hash ≡ chain_of l hash) × (reads ≡ length (chain_of l hash)) × ((k : ℕ) (r : Row K V) → IsAmong k (chain_of l hash) → row_at rows k ≡ Some r → eq (arc_value r.key) key ≡ false)
      go [] is line =
          let whole : length (chain_of l hash) ≡ length s.seen + 0 = ap length is ∙ length-append s.seen [] in
          (refl, omega (arith, whole, s.counted), λ k r q at. ⊎_elim (λ z. s.others k r z at) (λ z. absurd z) (among-parts k s.seen [] (subst (IsAmong k) is q)))
      go (x ∷ xs) is line = let both : None ≡ Some x = line.0 in absurd cc

  pub sought-absent : (reads : ℕ) → Sought None reads → NoneIsRowOf eq key hash (all_rows rows l)
  sought-absent reads s =
      ap (filter (λ p. is_row_of eq key hash p.1)) (all-is rows l)
      ∙ none-pass (row_at rows) (is_row_of eq key hash) (numbers_of l) fails
    where
      fails : (k : ℕ) (r : Row K V) → IsAmong k (numbers_of l) → row_at rows k ≡ Some r → is_row_of eq key hash r ≡ false
      fails k r q at =
          ⊎_elim
          (λ e.
          let h : hash_at l k ≡ hash = sym (t.hashed k r (linked-among l k q) at) ∙ e in
          let there = subst (λ z. IsAmong k (chain_of l z)) h ((linked-chains l).covers k q) in
          ap (λ b. b && eq (arc_value r.key) key) (eq-eqb r.hash hash e) ∙ (sought-all reads s).2 k r there at)
          (λ ne. ap (λ b. b && eq (arc_value r.key) key) (ne_eqb r.hash hash ne)) (cases_eq r.hash hash)

  -- with this row it has read at most as many rows as have the hash
  pub going-reads : (reads k : ℕ) → Going reads k → reads + 1 ≤ length (filter (λ p. p.1.hash == hash) (all_rows rows l))
  going-reads reads k w = let few = going-few reads k w in omega (arith, few, chain-few)

  pub all-reads : (reads : ℕ) → Sought None reads → reads ≤ length (filter (λ p. p.1.hash == hash) (all_rows rows l))
  all-reads reads s = let is = (sought-all reads s).1 in omega (arith, is, chain-few)

  pub going-counted : (reads k : ℕ) → Going reads k → reads + 1 ≤ length (all_rows rows l)
  going-counted reads k w = let few = going-reads reads k w in let all = filter-few (λ p. p.1.hash == hash) (all_rows rows l) in omega (arith, few, all)

  pub all-counted : (reads : ℕ) → Sought None reads → reads ≤ length (all_rows rows l)
  all-counted reads s = let few = all-reads reads s in let all = filter-few (λ p. p.1.hash == hash) (all_rows rows l) in omega (arith, few, all)

  -- the counter has room for one more
  pub going-fits : (reads k : ℕ) → Going reads k → reads < 2 ^ 64 - 1
  going-fits reads k w =
      let few = going-few reads k w in
      let chain = no-more (chain_of l hash) (numbers_of l) ((linked-chains l).apart hash) (λ j q. ((linked-chains l).members hash j q).0) in
      let both : length (numbers_of l) ≡ length (admitted_of l) + length (waiting_of l) = length-append (admitted_of l) (waiting_of l) in
      let numbers = few-linked l in
      omega (arith, few, chain, both, numbers.0, numbers.1)
