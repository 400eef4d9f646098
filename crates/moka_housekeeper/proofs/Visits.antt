-- The steps of a maintenance from row to row, added up.
use Rattle.std.proofs.Common.{◌≡◌, ℕ, ◌+◌, ◌≤◌, Bool, true, false, if◌then◌else◌, Option, Some, List, [], ◌∷◌, drop, length, arith, ap, ◌∙◌, sym, refl}
use Rattle.std.proofs.lemmas.Bool.{cond-true}
use Rattle.moka_model.specs.Maintenance.{fits, front}
use Rattle.moka_rows.specs.declared.rows.Row.{Row}
use Rattle.moka_rows.specs.Rows.{row_under, first_number, living_at, NumbersDiffer}
use Rattle.moka_table.specs.Table.{Contents, entries, weight_of}
use Rattle.moka_housekeeper.specs.Maintain.{is_within, JudgesFirst}
use Rattle.moka_housekeeper.specs.Visits.{visits_first, visits_sweeping, visits_judging, visits_of}
use Rattle.moka_housekeeper.proofs.Judging.{fits-within}
use Rattle.moka_housekeeper.proofs.Verdicts.{first-waits, judged-first}

module _ {K V : Type 0} (is_lru : Bool) (capacity : Option ℕ) where
  -- What the judgement of the first that waits may take, where it is no heavier than the capacity.
  pub visits-alone : (table : Contents K V) (n : ℕ) (row : Row K V) → NumbersDiffer (entries table) → Some n ≡ first_number table.waiting → row_under n (entries table) ≡ Some row
      → is_within capacity (row.info.policy_weight + 0) ≡ true → (count : ℕ) → count ≡ front weight_of capacity row.info.policy_weight table.admitted
      → visits_first is_lru capacity table.admitted table.waiting ≡ count + (if is_lru then 0 else count)
  visits-alone table n row apart first there alone count is =
      let victims : ℕ = front weight_of capacity row.info.policy_weight table.admitted in
      ap (visits_first is_lru capacity table.admitted) (first-waits table n row apart first there).1
      ∙ cond-true (fits (weight_of {K = K} {V = V}) capacity row.info.policy_weight []) (victims + (if is_lru then 0 else victims)) 0 (fits-within {K = K} {V = V} capacity row.info.policy_weight [] ∙ alone)
      ∙ ap (λ k. k + (if is_lru then 0 else k)) (sym is)

  module _ (frequency_of : ℕ → ℕ) where
    -- the judgements that are left, after the first
    pub judging-first : (limit less : Option ℕ) (first : ℕ × Row K V) (rest : List (ℕ × Row K V)) (old new : Contents K V) → JudgesFirst is_lru frequency_of capacity limit first rest old new less false
        → visits_judging is_lru frequency_of capacity old.admitted old.waiting ≡ visits_first is_lru capacity old.admitted old.waiting + visits_judging is_lru frequency_of capacity new.admitted new.waiting
    judging-first limit less first rest old new judges = let after = judged-first is_lru frequency_of capacity limit less first rest old new judges in rw (judges.waited, after.0, after.1) refl

    -- the first alone takes no more than all
    pub judging-first-le : (limit less : Option ℕ) (is_cut : Bool) (first : ℕ × Row K V) (rest : List (ℕ × Row K V)) (old new : Contents K V) → JudgesFirst is_lru frequency_of capacity limit first rest old new less is_cut
        → visits_first is_lru capacity old.admitted old.waiting ≤ visits_judging is_lru frequency_of capacity old.admitted old.waiting
    judging-first-le limit less is_cut first rest old new judges = rw judges.waited (let le : visits_first is_lru capacity old.admitted (first ∷ rest) ≤ visits_judging is_lru frequency_of capacity old.admitted (first ∷ rest) = omega arith in le)

    -- the parts of a maintenance, one after the other
    pub visits-parts : (at : ℕ) (old come shrunk : Contents K V) → come.admitted ≡ living_at at old.admitted → shrunk.waiting ≡ living_at at old.waiting
        → shrunk.admitted ≡ drop (front weight_of capacity 0 come.admitted) come.admitted
        → visits_sweeping old + (length old.waiting + (front weight_of capacity 0 come.admitted + visits_judging is_lru frequency_of capacity shrunk.admitted shrunk.waiting)) ≡ visits_of is_lru frequency_of capacity at old
    visits-parts at old come shrunk admitted waiting shrank = rw (shrank, waiting, admitted) refl
