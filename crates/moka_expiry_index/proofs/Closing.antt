-- The empty slots are closed, one slot after the other.
use Rattle.std.proofs.Common.{◌≡◌, ◌≢◌, ℕ, suc, ◌+◌, ◌<◌, ◌≤◌, ◌⊎◌, inl, inr, ◌++◌, sym, ap, subst, ◌∙◌, arith}
use Rattle.std.proofs.lemmas.Bool.{cases_lt}
use Rattle.std.proofs.lemmas.List.{append-nil}
use Rattle.moka_expiry_index.specs.Slots.{in_slot, listed}
use Rattle.moka_expiry_index.proofs.SlotLemmas.{listed-same}

-- The slots before `at` are closed: their numbers are in the first `retained` slots, and each of these has a number. Those
-- from `at` on are as they were.
pub record Closes (number₀ deadline₀ place₀ number deadline place : ℕ → ℕ) (known retained at : ℕ) : Type 0 where
  pub few : retained ≤ at
  pub numbers : (i : ℕ) → at ≤ i → number i ≡ number₀ i
  pub deadlines : (i : ℕ) → at ≤ i → deadline i ≡ deadline₀ i
  pub same : listed number deadline retained ≡ listed number₀ deadline₀ at
  pub full : (i : ℕ) → i < retained → number i ≢ 0
  pub within : (i : ℕ) → i < retained → number i < known
  pub placed : (i : ℕ) → i < retained → place (number i) ≡ i
  pub before : (i : ℕ) → i < retained → place₀ (number i) < at

module _ (number₀ deadline₀ place₀ number deadline place : ℕ → ℕ) (known retained at : ℕ) (closes : Closes number₀ deadline₀ place₀ number deadline place known retained at) where
  -- an empty slot is skipped
  pub closes-empty : number₀ at ≡ 0 → Closes number₀ deadline₀ place₀ number deadline place known retained (at + 1)
  closes-empty none = record {
    few = let few = closes.few in omega arith;
    numbers = λ i more. closes.numbers i (omega arith);
    deadlines = λ i more. closes.deadlines i (omega arith);
    same = closes.same ∙ sym (append-nil (listed number₀ deadline₀ at)) ∙ ap (λ n. listed number₀ deadline₀ at ++ in_slot n (deadline₀ at)) (sym none)
        ∙ ap (listed number₀ deadline₀) (let next : suc at ≡ at + 1 = omega arith in next);
    full = closes.full;
    within = closes.within;
    placed = closes.placed;
    before = λ i less. let h = closes.before i less in omega arith;
  }

  -- a number moves to the first slot that is not retained
  pub closes-moved : (number' deadline' place' : ℕ → ℕ) (n : ℕ) → n ≡ number₀ at → n ≢ 0 → n < known → place₀ n ≡ at
      → number' retained ≡ n → ((i : ℕ) → i ≢ retained → number' i ≡ number i)
      → deadline' retained ≡ deadline₀ at → ((i : ℕ) → i ≢ retained → deadline' i ≡ deadline i)
      → place' n ≡ retained → ((m : ℕ) → m ≢ n → place' m ≡ place m)
      → Closes number₀ deadline₀ place₀ number' deadline' place' known (retained + 1) (at + 1)
  closes-moved number' deadline' place' n is some less there number_here number_others deadline_here deadline_others place_here place_others = record {
    few = let few = closes.few in omega arith;
    numbers = λ i more. let few = closes.few in number_others i (λ same. omega arith) ∙ closes.numbers i (omega arith);
    deadlines = λ i more. let few = closes.few in deadline_others i (λ same. omega arith) ∙ closes.deadlines i (omega arith);
    same = ap (listed number' deadline') (let next : retained + 1 ≡ suc retained = omega arith in next)
        ∙ ap (λ l. l ++ in_slot (number' retained) (deadline' retained)) (listed-same number number' deadline deadline' retained (λ i l. number_others i (λ same. omega arith)) (λ i l. deadline_others i (λ same. omega arith)) ∙ closes.same)
        ∙ ap (λ m. listed number₀ deadline₀ at ++ in_slot m (deadline' retained)) (number_here ∙ is)
        ∙ ap (λ d. listed number₀ deadline₀ at ++ in_slot (number₀ at) d) deadline_here
        ∙ ap (listed number₀ deadline₀) (let next : suc at ≡ at + 1 = omega arith in next);
    full = λ i l. each (λ m. m ≢ 0) some closes.full i l;
    within = λ i l. each (λ m. m < known) less closes.within i l;
    placed = λ i l. at_place i (cases_lt i retained) l;
    before = λ i l. each (λ m. place₀ m < at + 1) (let e = there in omega arith) (λ j k. let h = closes.before j k in omega arith) i l;
  }
    where
      each : (P : ℕ → Type 0) → P n → ((i : ℕ) → i < retained → P (number i)) → (i : ℕ) → i < retained + 1 → P (number' i)
      each P last earlier i l = go (cases_lt i retained)
        where
          go : (i < retained) ⊎ (retained ≤ i) → P (number' i)
          go (inl k) = subst P (sym (number_others i (λ same. omega arith))) (earlier i k)
          go (inr k) = let same : retained ≡ i = omega arith in subst P (sym number_here ∙ ap number' same) last

      at_place : (i : ℕ) → (i < retained) ⊎ (retained ≤ i) → i < retained + 1 → place' (number' i) ≡ i
      at_place i (inl k) l =
          let h = closes.before i k in
          let differs : number i ≢ n = λ same. let e : place₀ (number i) ≡ at = ap place₀ same ∙ there in omega arith in
          ap place' (number_others i (λ same. omega arith)) ∙ place_others (number i) differs ∙ closes.placed i k
      at_place i (inr k) l = let same : i ≡ retained = omega arith in ap (λ j. place' (number' j)) same ∙ ap place' number_here ∙ place_here ∙ sym same
