-- What a limit lets a maintenance do.
use Rattle.std.proofs.Common.{◌≡◌, ◌⊎◌, inl, inr, ℕ, suc, ◌+◌, ◌-◌, ◌<◌, ◌≤◌, nat_le, Some, List, [], ◌∷◌, ◌++◌, length, take, refl, ap, ⊎_elim, length-append, arith}
use Rattle.std.proofs.lemmas.Bool.{cond_both, cond-true, leb-true, leb-false, le-leb}
use Rattle.moka_model.specs.Maintenance.{Part, done, evicted_in}

module _ {X : Type 0} where
  -- at most as many leave as the limit allows
  pub evicted-done-le : (ps : List (Part X)) (limit : ℕ) → length (evicted_in (done (Some limit) ps)) ≤ limit
  evicted-done-le [] limit = omega arith
  evicted-done-le (p ∷ ps) limit =
      let more : List (Part X) = done (Some (limit - length p.evicted)) ps in
      let rest = evicted-done-le ps (limit - length p.evicted) in
      let all = length-append p.evicted (evicted_in more) in
      cond_both (nat_le (length p.evicted) limit) (p ∷ more) [] (λ ds. length (evicted_in ds) ≤ limit)
      (λ e. let within = leb-true (length p.evicted) limit e in omega arith)
      (λ _. omega arith)

  -- where the limit is enough, all is done
  pub done-enough : (ps : List (Part X)) (limit : ℕ) → length (evicted_in ps) ≤ limit → done (Some limit) ps ≡ ps
  done-enough [] limit enough = refl
  done-enough (p ∷ ps) limit enough =
      let all = length-append p.evicted (evicted_in ps) in
      let more : List (Part X) = done (Some (limit - length p.evicted)) ps in
      rw (cond-true (nat_le (length p.evicted) limit) (p ∷ more) [] (le-leb (length p.evicted) limit (omega arith)))
      (ap (λ rs. p ∷ rs) (done-enough ps (limit - length p.evicted) (omega arith)))

  -- what is done is a front of the parts
  pub done_front : (ps : List (Part X)) (limit : ℕ) → (n : ℕ) × (done (Some limit) ps ≡ take n ps)
  done_front [] limit = (0, refl)
  done_front (p ∷ ps) limit =
      let more : List (Part X) = done (Some (limit - length p.evicted)) ps in
      let rest = done_front ps (limit - length p.evicted) in
      cond_both (nat_le (length p.evicted) limit) (p ∷ more) [] (λ ds. (n : ℕ) × (ds ≡ take n (p ∷ ps)))
      (λ _. (suc rest.0, ap (λ rs. p ∷ rs) rest.1))
      (λ _. (0, refl))

  -- the part with which a limit would be passed
  abbrev Passes : List (Part X) → ℕ → List (Part X) → Type 0
  Passes ps limit ds = (ds ≡ ps) ⊎ ((p : Part X) × (rest : List (Part X)) × (ps ≡ ds ++ p ∷ rest) × (limit < length (evicted_in ds) + length p.evicted))

  -- all is done, or the next part would pass the limit
  pub done_next : (ps : List (Part X)) (limit : ℕ) → Passes ps limit (done (Some limit) ps)
  done_next [] limit = inl refl
  done_next (p ∷ ps) limit =
      let more : List (Part X) = done (Some (limit - length p.evicted)) ps in
      let all = length-append p.evicted (evicted_in more) in
      cond_both (nat_le (length p.evicted) limit) (p ∷ more) [] (Passes (p ∷ ps) limit)
      (λ e. let within = leb-true (length p.evicted) limit e in
      ⊎_elim
      (λ whole. inl (ap (λ rs. p ∷ rs) whole))
      (λ next. inr (next.0, next.1, ap (λ rs. p ∷ rs) next.2, omega arith))
      (done_next ps (limit - length p.evicted)))
      (λ e. let past = leb-false (length p.evicted) limit e in inr (p, ps, refl, omega arith))
