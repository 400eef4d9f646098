-- What a limit does to parts that come one after another.
use Rattle.std.proofs.Common.{◌≡◌, ◌↔◌, ℕ, zero, suc, ◌+◌, ◌-◌, nat_le, Bool, true, false, cond, Option, Some, None, List, [], ◌∷◌, ◌++◌, length, take, drop, refl, ap, ◌∙◌, length-append, arith}
use Rattle.std.proofs.lemmas.Bool.{cond_both, leb-true, leb-false}
use Rattle.moka_model.specs.Maintenance.{Part, done, is_left, evicted_in}

module _ {X : Type 0} where
  -- a part is left undone exactly where not all are done
  pub left-exactly : (limit : ℕ) (ps : List (Part X)) → (is_left (Some limit) ps ≡ false) ↔ (done (Some limit) ps ≡ ps)
  left-exactly limit [] = (λ _. refl, λ _. refl)
  left-exactly limit (p ∷ ps) = go (nat_le (length p.evicted) limit) (left-exactly (limit - length p.evicted) ps)
    where
      go : (b : Bool) → ((is_left (Some (limit - length p.evicted)) ps ≡ false) ↔ (done (Some (limit - length p.evicted)) ps ≡ ps))
          → (cond b (is_left (Some (limit - length p.evicted)) ps) true ≡ false) ↔ (cond b (p ∷ done (Some (limit - length p.evicted)) ps) [] ≡ p ∷ ps)
      go true rest = (λ none. ap (λ rs. p ∷ rs) (rest.0 none), λ all. rest.1 (ap (λ l. drop 1 l) all))
      go false rest = (λ no. cc, λ no. cc)

  -- so where none is, the limit does all
  pub done-all : (limit : Option ℕ) (ps : List (Part X)) → is_left limit ps ≡ false → done limit ps ≡ ps
  done-all None ps none = refl
  done-all (Some limit) ps none = (left-exactly limit ps).0 none

  -- behind parts that are all done the others go on with what is left of the limit
  pub done-behind : (limit : ℕ) (ps rs : List (Part X)) → is_left (Some limit) ps ≡ false → done (Some limit) (ps ++ rs) ≡ ps ++ done (Some (limit - length (evicted_in ps))) rs
  done-behind limit [] rs all = ap (λ n. done (Some n) rs) (let same : limit ≡ limit - 0 = omega arith in same)
  done-behind limit (p ∷ ps) rs all = go (nat_le (length p.evicted) limit) refl all
      (λ more. done-behind (limit - length p.evicted) ps rs more ∙ ap (λ n. ps ++ done (Some n) rs) (let both = length-append p.evicted (evicted_in ps) in let same : limit - length p.evicted - length (evicted_in ps) ≡ limit - length (p.evicted ++ evicted_in ps) = omega (arith, both) in same))
    where
      go : (b : Bool) → nat_le (length p.evicted) limit ≡ b → cond b (is_left (Some (limit - length p.evicted)) ps) true ≡ false
          → (is_left (Some (limit - length p.evicted)) ps ≡ false → done (Some (limit - length p.evicted)) (ps ++ rs) ≡ ps ++ done (Some (limit - length (p.evicted ++ evicted_in ps))) rs)
          → cond b (p ∷ done (Some (limit - length p.evicted)) (ps ++ rs)) [] ≡ p ∷ ps ++ done (Some (limit - length (p.evicted ++ evicted_in ps))) rs
      go true e none later = ap (λ l. p ∷ l) (later none)
      go false e none later = cc

  -- where a part is left undone, those behind it are not reached
  pub done-cut : (limit : ℕ) (ps rs : List (Part X)) → is_left (Some limit) ps ≡ true → (done (Some limit) (ps ++ rs) ≡ done (Some limit) ps) × (is_left (Some limit) (ps ++ rs) ≡ true)
  done-cut limit [] rs cut = cc
  done-cut limit (p ∷ ps) rs cut = go (nat_le (length p.evicted) limit) cut (λ more. done-cut (limit - length p.evicted) ps rs more)
    where
      go : (b : Bool) → cond b (is_left (Some (limit - length p.evicted)) ps) true ≡ true
          → (is_left (Some (limit - length p.evicted)) ps ≡ true → (done (Some (limit - length p.evicted)) (ps ++ rs) ≡ done (Some (limit - length p.evicted)) ps) × (is_left (Some (limit - length p.evicted)) (ps ++ rs) ≡ true))
          → (cond b (p ∷ done (Some (limit - length p.evicted)) (ps ++ rs)) [] ≡ cond b (p ∷ done (Some (limit - length p.evicted)) ps) []) × (cond b (is_left (Some (limit - length p.evicted)) (ps ++ rs)) true ≡ true)
      go true more later = let it = later more in (ap (λ l. p ∷ l) it.0, it.1)
      go false more later = (refl, refl)

  pub left-behind : (limit : ℕ) (ps rs : List (Part X)) → is_left (Some limit) ps ≡ false → is_left (Some limit) (ps ++ rs) ≡ is_left (Some (limit - length (evicted_in ps))) rs
  left-behind limit [] rs all = ap (λ n. is_left (Some n) rs) (let same : limit ≡ limit - 0 = omega arith in same)
  left-behind limit (p ∷ ps) rs all = go (nat_le (length p.evicted) limit) all
      (λ more. left-behind (limit - length p.evicted) ps rs more ∙ ap (λ n. is_left (Some n) rs) (let both = length-append p.evicted (evicted_in ps) in let same : limit - length p.evicted - length (evicted_in ps) ≡ limit - length (p.evicted ++ evicted_in ps) = omega (arith, both) in same))
    where
      go : (b : Bool) → cond b (is_left (Some (limit - length p.evicted)) ps) true ≡ false
          → (is_left (Some (limit - length p.evicted)) ps ≡ false → is_left (Some (limit - length p.evicted)) (ps ++ rs) ≡ is_left (Some (limit - length (p.evicted ++ evicted_in ps))) rs)
          → cond b (is_left (Some (limit - length p.evicted)) (ps ++ rs)) true ≡ is_left (Some (limit - length (p.evicted ++ evicted_in ps))) rs
      go true none later = later none
      go false none later = cc

  -- parts in each of which one leaves
  abbrev pub AllOne : List (Part X) → Type 0
  AllOne [] = Unit {0}
  AllOne (p ∷ ps) = (length p.evicted ≡ 1) × AllOne ps

  -- of those as many are done as the limit says
  pub done-ones : (limit : ℕ) (ps : List (Part X)) → AllOne ps → done (Some limit) ps ≡ take limit ps
  done-ones zero [] ones = refl
  done-ones (suc limit) [] ones = refl
  done-ones zero (p ∷ ps) ones = cond_both (nat_le (length p.evicted) 0) (p ∷ done (Some (0 - length p.evicted)) ps) [] (λ l. l ≡ []) (λ e. absurd (let le = leb-true (length p.evicted) 0 e in let no : ⊥ = omega (arith, le, ones.0) in no)) (λ _. refl)
  done-ones (suc limit) (p ∷ ps) ones =
      cond_both (nat_le (length p.evicted) (suc limit)) (p ∷ done (Some (suc limit - length p.evicted)) ps) [] (λ l. l ≡ p ∷ take limit ps)
      (λ _. ap (λ l. p ∷ l) (ap (λ n. done (Some n) ps) (let one : suc limit - length p.evicted ≡ limit = omega (arith, ones.0) in one) ∙ done-ones limit ps ones.1))
      (λ e. absurd (let lt = leb-false (length p.evicted) (suc limit) e in let no : ⊥ = omega (arith, lt, ones.0) in no))
