-- Tables of counters that age.
use Rattle.std.proofs.Common.{◌≡◌, ℕ, suc, ◌+◌, ◌*◌, ◌/◌, ◌%◌, ◌<◌, ◌≤◌, inl, inr, Bool, true, false, nat_eq, cond, List, [], ◌∷◌, length, filter, min, set, get_or, reverse, fold, arith, ◌∙◌, ap, sym, refl, length-set, mod-eq_of_lt, add-one}
use Rattle.std.proofs.Math.Nat.{suc-mod, mod_self}
use Rattle.std.proofs.lemmas.Bool.{cases_eq, eq-eqb, ne_eqb, eqb-true, eqb-false, cond-true, cond-false, cond_both}
use Rattle.std.proofs.lemmas.List.{length-map, length-replicate, get_or-map, get_or-set_other, get_or-set_same, get_or-replicate, reverse-append, reverse-reverse}
use Rattle.std.proofs.lemmas.List.Sums.{fold-append}
use Rattle.std.proofs.lemmas.Nat.{pow_pos}
use Rattle.moka_policy.specs.Frequency.{Counts, counter_count, counter_of, counted, halved, noted, none_noted, estimated, estimate_after, count_with, count_after}

-- there is a counter
pub counter_count_pos : (bits : ℕ) → 0 < counter_count bits
counter_count_pos bits = pow_pos (min bits 20)

-- a number of notes since that is short of m grows by one with the next note
pub next_remainder : (n m since : ℕ) → since ≡ n % m → since + 1 < m → suc n % m ≡ since + 1
next_remainder n m since is below = suc-mod n m ∙ ap (λ k. suc k % m) (sym is) ∙ ap (λ k. k % m) (sym (add-one since)) ∙ mod-eq_of_lt below

-- and one that is full begins anew
pub full_remainder : (n m since : ℕ) → since ≡ n % m → since + 1 ≡ m → suc n % m ≡ 0
full_remainder n m since is full = suc-mod n m ∙ ap (λ k. suc k % m) (sym is) ∙ ap (λ k. k % m) (sym (add-one since) ∙ full) ∙ mod_self m

-- the number of the notes is a multiple just where the notes since are full
pub due_together : (n m since : ℕ) → 0 < m → since ≡ n % m → nat_eq (suc n % m) 0 ≡ nat_eq (since + 1) m
due_together n m since positive is = elim (cases_eq (since + 1) m) [
  | inl full ↦ eq-eqb (suc n % m) 0 (full_remainder n m since is full) ∙ sym (eq-eqb (since + 1) m full)
  | inr short ↦
      let below : since + 1 < m = omega arith in
      let next = next_remainder n m since is below in
      ne_eqb (suc n % m) 0 (λ none. absurd (omega arith)) ∙ sym (ne_eqb (since + 1) m short)
]

-- what a table keeps of these notes, the newest first
record Keeps (bits : ℕ) (notes : List ℕ) (counts : Counts) : Type 0 where
  as_many : length counts.counters ≡ counter_count bits
  since : counts.notes ≡ length notes % (10 * counter_count bits)
  counts_are : (hash : ℕ) → estimated bits counts hash ≡ count_after bits hash notes

-- each hash uses one of the counters
counter_of-lt : (bits hash : ℕ) → counter_of bits hash < counter_count bits
counter_of-lt bits hash = let positive = counter_count_pos bits in omega arith

-- a table at first keeps nothing
keeps_none : (bits : ℕ) → Keeps bits [] (none_noted bits)
keeps_none bits = record {
  as_many = length-replicate (counter_count bits) 0;
  since = sym (mod-eq_of_lt (let positive = counter_count_pos bits in omega arith));
  counts_are = λ hash. get_or-replicate (counter_count bits) (counter_of bits hash) 0 0 (counter_of-lt bits hash);
}

-- a place that is counted up, and the others as they were
pub counted_up : (counters : List ℕ) (i j : ℕ) → i < length counters
    → get_or (set counters i (min (get_or counters i 0 + 1) 15)) j 0 ≡ cond (nat_eq i j) (min (get_or counters j 0 + 1) 15) (get_or counters j 0)
counted_up counters i j within =
    let more = min (get_or counters i 0 + 1) 15 in
    elim (cases_eq i j) [
      | inl same ↦ ap (λ k. get_or (set counters i more) k 0) (sym same) ∙ get_or-set_same counters i more 0 within
          ∙ ap (λ k. min (get_or counters k 0 + 1) 15) same ∙ sym (cond-true (nat_eq i j) _ _ (eq-eqb i j same))
      | inr other ↦ get_or-set_other counters i j more 0 (λ same. other (sym same)) ∙ sym (cond-false (nat_eq i j) _ _ (ne_eqb i j other))
    ]

-- a note counts for the hashes that use its counter
estimated-counted : (bits note hash : ℕ) (counts : Counts) → length counts.counters ≡ counter_count bits
    → estimated bits (counted bits counts note) hash ≡ count_with bits hash note (estimated bits counts hash)
estimated-counted bits note hash counts as_many =
    let below = counter_of-lt bits note in
    counted_up counts.counters (counter_of bits note) (counter_of bits hash) (omega arith)

-- halving halves each estimate
estimated-aged : (bits hash : ℕ) (counts : Counts) (is_due : Bool) → length counts.counters ≡ counter_count bits
    → estimated bits (cond is_due (halved counts) counts) hash ≡ cond is_due (estimated bits counts hash / 2) (estimated bits counts hash)
estimated-aged bits hash counts true as_many = get_or-map (λ (count : ℕ). count / 2) counts.counters (counter_of bits hash) 0 0 (let below = counter_of-lt bits hash in omega arith)
estimated-aged bits hash counts false as_many = refl

-- one more note is kept, where the halving comes when it is due
module _ (bits note : ℕ) (notes : List ℕ) (counts : Counts) (keeps : Keeps bits notes counts) where
  estimated-noted : (hash : ℕ) → estimated bits (noted bits counts note) hash ≡ count_after bits hash (note ∷ notes)
  estimated-noted hash =
      let positive : 0 < 10 * counter_count bits = (let some = counter_count_pos bits in omega arith) in
      let is_due = nat_eq (counts.notes + 1) (10 * counter_count bits) in
      let count = count_with bits hash note (count_after bits hash notes) in
      let as_many = length-set counts.counters (counter_of bits note) _ ∙ keeps.as_many in
      estimated-aged bits hash (counted bits counts note) is_due as_many
      ∙ ap (λ c. cond is_due (c / 2) c) (estimated-counted bits note hash counts keeps.as_many ∙ ap (count_with bits hash note) (keeps.counts_are hash))
      ∙ ap (λ b. cond b (count / 2) count) (sym (due_together (length notes) (10 * counter_count bits) counts.notes positive keeps.since))

  as_many-noted : (is_due : Bool) → length (cond is_due (halved (counted bits counts note)) (counted bits counts note)).counters ≡ counter_count bits
  as_many-noted true = length-map (counted bits counts note).counters (λ (count : ℕ). count / 2) ∙ length-set counts.counters (counter_of bits note) _ ∙ keeps.as_many
  as_many-noted false = length-set counts.counters (counter_of bits note) _ ∙ keeps.as_many

  since-noted : (is_due : Bool) → nat_eq (counts.notes + 1) (10 * counter_count bits) ≡ is_due
      → (cond is_due (halved (counted bits counts note)) (counted bits counts note)).notes ≡ suc (length notes) % (10 * counter_count bits)
  since-noted true due = sym (full_remainder (length notes) (10 * counter_count bits) counts.notes keeps.since (eqb-true _ _ due))
  since-noted false not_due =
      let positive = counter_count_pos bits in
      let since = keeps.since in
      let short = eqb-false _ _ not_due in
      sym (next_remainder (length notes) (10 * counter_count bits) counts.notes keeps.since (omega arith))

  keeps_noted : Keeps bits (note ∷ notes) (noted bits counts note)
  keeps_noted = record { as_many = as_many-noted _; since = since-noted _ refl; counts_are = estimated-noted }

-- what a table keeps after these notes, the newest first
keeps_all : (bits : ℕ) (notes : List ℕ) → Keeps bits notes (fold (noted bits) (none_noted bits) (reverse notes))
keeps_all bits [] = keeps_none bits
keeps_all bits (note ∷ notes) =
    let last : fold (noted bits) (none_noted bits) (reverse (note ∷ notes)) ≡ noted bits (fold (noted bits) (none_noted bits) (reverse notes)) note =
    ap (fold (noted bits) (none_noted bits)) (reverse-append (note ∷ []) notes) ∙ fold-append (noted bits) (none_noted bits) (reverse notes) (note ∷ []) in
    rw last (keeps_noted bits note notes _ (keeps_all bits notes))

-- the estimate after some notes is what its counter keeps of them
pub estimate_after-kept : (bits hash : ℕ) (notes : List ℕ) → estimate_after bits (reverse notes) hash ≡ count_after bits hash notes
estimate_after-kept bits hash notes = (keeps_all bits notes).counts_are hash

-- a counter keeps at most 15
kept-le : (bits hash : ℕ) (notes : List ℕ) → count_after bits hash notes ≤ 15
kept-le bits hash [] = omega arith
kept-le bits hash (note ∷ notes) =
    let more : count_with bits hash note (count_after bits hash notes) ≤ 15 =
    cond_both (nat_eq (counter_of bits note) (counter_of bits hash)) _ _ (λ count. count ≤ 15) (λ _. omega arith) (λ _. kept-le bits hash notes) in
    cond_both (nat_eq (suc (length notes) % (10 * counter_count bits)) 0) _ _ (λ count. count ≤ 15) (λ _. omega arith) (λ _. more)

-- no estimate passes 15
pub estimate_after-le : (bits hash : ℕ) (notes : List ℕ) → estimate_after bits notes hash ≤ 15
estimate_after-le bits hash notes =
    let is = ap (λ ns. estimate_after bits ns hash) (sym (reverse-reverse notes)) ∙ estimate_after-kept bits hash (reverse notes) in
    rw is (kept-le bits hash (reverse notes))

-- one note more or the same, up to 15
module _ (bits hash note : ℕ) (notes : List ℕ) where
  pub one_more : (uses : Bool) (count : ℕ) → count ≡ min (length notes) 15 → cond uses (min (count + 1) 15) count ≡ min (length (cond uses (note ∷ notes) notes)) 15
  one_more true count is = omega arith
  one_more false count is = is

-- before the first halving a counter keeps how many notes used it
pub kept-counts : (bits hash : ℕ) (notes : List ℕ) → length notes < 10 * counter_count bits
    → count_after bits hash notes ≡ min (length (filter (λ note. nat_eq (counter_of bits note) (counter_of bits hash)) notes)) 15
kept-counts bits hash [] few = omega arith
kept-counts bits hash (note ∷ notes) few =
    let uses = nat_eq (counter_of bits note) (counter_of bits hash) in
    let not_due : nat_eq (suc (length notes) % (10 * counter_count bits)) 0 ≡ false = rw (mod-eq_of_lt few) (ne_eqb (suc (length notes)) 0 (λ none. absurd (omega arith))) in
    cond-false _ _ _ not_due ∙ one_more bits hash note (filter (λ n. nat_eq (counter_of bits n) (counter_of bits hash)) notes) uses _ (kept-counts bits hash notes (omega arith))
