-- Chains: links that lead through numbers and end.
use Rattle.std.proofs.Common.{◌≡◌, ◌≢◌, ℕ, zero, suc, ◌≤◌, Bool, true, false, List, [], ◌∷◌, ◌++◌, length, Option, Some, None, refl, sym, ap, subst, ◌∙◌, arith, inl, inr, ⊎_elim}
use Rattle.std.specs.Prelude.{nat_lt}
use Rattle.moka_index.specs.Paths.{IsAmong, without, chase, IsChain}
use Rattle.moka_index.specs.Nodes.{row_of}
use Rattle.moka_index.proofs.PathLemmas.{IsApart, without-here, without-there}

-- the links lead through these numbers, from the first one, and end
abbrev pub IsLine : (ℕ → Option ℕ) → Option ℕ → List ℕ → Type 0
IsLine same first [] = first ≡ None
IsLine same first (k ∷ ks) = (first ≡ Some k) × IsLine same (same k) ks

some-is : (a b : ℕ) → Some a ≡ Some b → a ≡ b
some-is a b h = cc

module _ (same : ℕ → Option ℕ) where
  pub chain-line : (first : Option ℕ) (ks : List ℕ) → IsChain same first ks → IsLine same first ks
  chain-line None [] h = refl
  chain-line (Some j) [] h = absurd cc
  chain-line None (k ∷ ks) h = absurd cc
  chain-line (Some j) (k ∷ ks) h =
      let here : j ≡ k = cc in
      let rest : chase same (suc (length ks)) (same j) ≡ ks = cc in
      (ap Some here, subst (λ t. IsLine same (same t) ks) here (chain-line (same j) ks rest))

  pub line-chase : (n : ℕ) (first : Option ℕ) (ks : List ℕ) → length ks ≤ n → IsLine same first ks → chase same n first ≡ ks
  line-chase zero first [] few h = refl
  line-chase (suc n) first [] few h = rw h refl
  line-chase zero first (k ∷ ks) few h = absurd (omega arith)
  line-chase (suc n) first (k ∷ ks) few h = rw h.0 (ap (λ t. k ∷ t) (line-chase n (same k) ks (omega arith) h.1))

  pub line-chain : (first : Option ℕ) (ks : List ℕ) → IsLine same first ks → IsChain same first ks
  line-chain first ks h = line-chase (suc (length ks)) first ks (omega arith) h

  pub chase-few : (n : ℕ) (first : Option ℕ) → length (chase same n first) ≤ n
  chase-few zero first = omega arith
  chase-few (suc n) None = omega arith
  chase-few (suc n) (Some k) = let few = chase-few n (same k) in omega arith

  -- a chain from a number continues after it
  pub record Behind (n at : ℕ) : Type 0 where
    pub rest : List ℕ
    pub is : chase same n (Some at) ≡ at ∷ rest
    pub line : IsLine same (same at) rest
    pub chased : chase same n (same at) ≡ rest

  pub behind : (n at : ℕ) → IsChain same (Some at) (chase same n (Some at)) → Behind n at
  behind n at h = go (chase same n (Some at)) refl (chain-line (Some at) (chase same n (Some at)) h)
    where
      go : (ks : List ℕ) → chase same n (Some at) ≡ ks → IsLine same (Some at) ks → Behind n at
      go [] is line = absurd cc
      go (k ∷ ks) is line =
          let here : k ≡ at = sym (some-is at k line.0) in
          let few = chase-few n (Some at) in
          let len : length (chase same n (Some at)) ≡ suc (length ks) = ap length is in
          let onward = subst (λ t. IsLine same (same t) ks) here line.1 in
          record { rest = ks; is = is ∙ ap (λ t. t ∷ ks) here; line = onward; chased = line-chase n (same at) ks (omega (arith, few, len)) onward }

  -- a number of a chain links to the one after it
  pub line-leads : (first : Option ℕ) (front back : List ℕ) (k : ℕ) → IsLine same first (front ++ k ∷ back) → IsLine same (same k) back
  line-leads first [] back k h = h.1
  line-leads first (x ∷ xs) back k h = line-leads (same x) xs back k h.1

module _ (same same' : ℕ → Option ℕ) where
  -- links that changed only elsewhere keep a chain
  pub line-frame : (first : Option ℕ) (ks : List ℕ) → ((k : ℕ) → IsAmong k ks → same' k ≡ same k) → IsLine same first ks → IsLine same' first ks
  line-frame first [] agree h = h
  line-frame first (k ∷ ks) agree h = (h.0, subst (λ t. IsLine same' t ks) (sym (agree k (inl refl))) (line-frame (same k) ks (λ j q. agree j (inr q)) h.1))

  -- a number that linked to another one now links past it
  pub line-passed : (first : Option ℕ) (front back : List ℕ) (p n : ℕ) → same' p ≡ same n → ((k : ℕ) → k ≢ p → same' k ≡ same k) → IsApart (front ++ p ∷ n ∷ back)
      → IsLine same first (front ++ p ∷ n ∷ back) → IsLine same' first (front ++ p ∷ back)
  line-passed first [] back p n past others apart h = (
    h.0,
    subst (λ t. IsLine same' t back) (sym past) (line-frame (same n) back (λ k q. others k (λ e. apart.0 (inr (subst (λ t. IsAmong t back) e q)))) h.1.1),
  )
  line-passed first (x ∷ xs) back p n past others apart h = (
    h.0,
    subst (λ t. IsLine same' t (xs ++ p ∷ back)) (sym (others x (λ e. apart.0 (among-middle x p xs (n ∷ back) (sym e))))) (line-passed (same x) xs back p n past others apart.1 h.1),
  )
    where
      among-middle : (k p : ℕ) (ys zs : List ℕ) → p ≡ k → IsAmong k (ys ++ p ∷ zs)
      among-middle k p [] zs e = inl e
      among-middle k p (y ∷ ys) zs e = inr (among-middle k p ys zs e)

-- the number after another one is removed
pub without-behind : (front back : List ℕ) (p n : ℕ) → IsApart (front ++ p ∷ n ∷ back) → without n (front ++ p ∷ n ∷ back) ≡ front ++ p ∷ back
without-behind [] back p n apart = without-there n p (n ∷ back) (λ e. apart.0 (inl (sym e))) ∙ ap (λ t. p ∷ t) (without-here n n back refl)
without-behind (x ∷ xs) back p n apart =
    without-there n x (xs ++ p ∷ n ∷ back) (λ e. apart.0 (later x xs e)) ∙ ap (λ t. x ∷ t) (without-behind xs back p n apart.1)
  where
    later : (k : ℕ) (ys : List ℕ) → k ≡ n → IsAmong k (ys ++ p ∷ n ∷ back)
    later k [] e = inr (inl (sym e))
    later k (y ∷ ys) e = inr (later k ys e)

-- what a link leads to
pub row_of-is : (link k : ℕ) → row_of link ≡ Some k → link ≡ k
row_of-is link k h = go (nat_lt link 2) refl
  where
    go : (b : Bool) → nat_lt link 2 ≡ b → link ≡ k
    go true is = let none = rw is at h in absurd cc
    go false is = let some = rw is at h in cc

-- a walk along a chain towards a number, which has come to `at` and sees what `at` leads to
pub record Onward (same : ℕ → Option ℕ) (n at next number : ℕ) : Type 0 where
  pub is : chase same n (Some at) ≡ at ∷ chase same n (Some next)
  pub linked : IsChain same (Some next) (chase same n (Some next))
  pub within : IsAmong number (chase same n (Some next))
  pub row : same at ≡ Some next

pub onward : (same : ℕ → Option ℕ) (n at next number : ℕ) → IsChain same (Some at) (chase same n (Some at)) → IsAmong number (chase same n (Some at)) → at ≢ number
    → row_of next ≡ same at → Onward same n at next number
onward same n at next number linked within later leads = go b.rest refl
  where
    b : Behind same n at
    b = behind same n at linked

    there : IsAmong number b.rest
    there = ⊎_elim (λ e. absurd (later e)) (λ q. q) (subst (IsAmong number) b.is within)

    go : (rest : List ℕ) → b.rest ≡ rest → Onward same n at next number
    go [] is = absurd (subst (IsAmong number) is there)
    go (y ∷ ys) is =
        let line = subst (IsLine same (same at)) is b.line in
        let here : next ≡ y = row_of-is next y (leads ∙ line.0) in
        let row : same at ≡ Some next = line.0 ∙ ap Some (sym here) in
        let chased : chase same n (Some next) ≡ b.rest = ap (chase same n) (sym row) ∙ b.chased in
        record {
          is = b.is ∙ ap (λ t. at ∷ t) (sym chased);
          linked = subst (IsChain same (Some next)) (sym chased) (line-chain same (Some next) b.rest (subst (λ t. IsLine same t b.rest) row b.line));
          within = subst (IsAmong number) (sym chased) there;
          row = row;
        }
