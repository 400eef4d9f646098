-- The judgement of the first row that waits, and of all, as what is left to do.
use Rattle.std.proofs.Common.{◌≡◌, ℕ, ◌==◌, ◌||◌, ◌+◌, nat_le, Bool, true, false, cond, Option, Some, None, List, [], ◌∷◌, ◌++◌, length, take, drop, refl, sym, ap, subst, ◌∙◌}
use Rattle.std.specs.Option.{IfSome, IsSome}
use Rattle.std.proofs.lemmas.Bool.{cond-true, cond-false}
use Rattle.std.proofs.lemmas.List.{length-take-le}
use Rattle.moka_model.specs.declared.notification.RemovalCause.TheVariants.{Size}
use Rattle.moka_model.specs.Maintenance.{Queues, Part, fits, front, judge, judged}
use Rattle.moka_model.proofs.Callers.{admitting, dropping, front-le, judge_both}
use Rattle.moka_rows.specs.declared.rows.Row.{Row}
use Rattle.moka_rows.specs.Rows.{row_under, without_row, first_number, NumbersDiffer}
use Rattle.moka_table.specs.Table.{Contents, entries, weight_of}
use Rattle.moka_housekeeper.specs.Maintain.{notice_for, notices_for, is_within, frequencies, hash_wins, row_wins, rows_of, lets_leave, limit_less, judgements, DoesParts, JudgesFirst}
use Rattle.moka_rows.proofs.Callers.{row_under-append_right, begins-with, absent-before, stored-at, row_under-at, without_row-at}
use Rattle.moka_housekeeper.proofs.Resuming.{Resumes, resumes-behind, resumes-within, does-after, does-one, does-not}
use Rattle.moka_housekeeper.proofs.Sweeping.{queues-are}
use Rattle.moka_housekeeper.proofs.Judging.{fits-within}

module _ {K V : Type 0} where
  -- the first that waits is stored
  pub first-stored : (table : Contents K V) (n : ℕ) → Some n ≡ first_number table.waiting → IsSome (row_under n (entries table))
  first-stored table n first_is =
      let begins = begins-with table.waiting n first_is in
      let whole : entries table ≡ table.admitted ++ (n, begins.0) ∷ begins.1 = ap (λ l. table.admitted ++ l) begins.2 in
      rw whole (stored-at n begins.0 table.admitted begins.1)

  -- and it is the row that is read under its number
  pub first-waits : (table : Contents K V) (n : ℕ) (row : Row K V) → NumbersDiffer (entries table) → Some n ≡ first_number table.waiting → row_under n (entries table) ≡ Some row
      → (back : List (ℕ × Row K V)) × (table.waiting ≡ (n, row) ∷ back) × (row_under n table.admitted ≡ None)
  first-waits table n row apart first_is there =
      let begins = begins-with table.waiting n first_is in
      let none : row_under n table.admitted ≡ None = absent-before n begins.0 table.admitted begins.1 (subst (λ (l : List (ℕ × Row K V)). NumbersDiffer (table.admitted ++ l)) begins.2 apart) in
      let found : Some begins.0 ≡ Some row = sym (row_under-append_right n table.admitted table.waiting none ∙ ap (row_under n) begins.2 ∙ row_under-at n begins.0 [] begins.1 refl) ∙ there in
      let same : begins.0 ≡ row = cc in
      (begins.1, begins.2 ∙ ap (λ (r : Row K V). (n, r) ∷ begins.1) same, none)

  module _ (is_lru : Bool) (frequency_of : ℕ → ℕ) (capacity : Option ℕ) where
    abbrev wins : ℕ × Row K V → List (ℕ × Row K V) → Bool
    wins = row_wins is_lru frequency_of

    -- the number of victims that a row needs
    abbrev pub count_of : List (ℕ × Row K V) → Row K V → ℕ
    count_of admitted row = front weight_of capacity row.info.policy_weight admitted

    -- this is the number of its victims
    pub victims-many : (admitted : List (ℕ × Row K V)) (row : Row K V) → length (take (count_of admitted row) admitted) ≡ count_of admitted row
    victims-many admitted row = length-take-le (count_of admitted row) admitted (front-le weight_of capacity row.info.policy_weight admitted)

    abbrev JudgesHere : Contents K V → ℕ × Row K V → List (ℕ × Row K V) → Type 0
    JudgesHere old first rest = old.waiting ≡ first ∷ rest

    module _ (admitted : List (ℕ × Row K V)) (n : ℕ) (row : Row K V) (rest : List (ℕ × Row K V)) where
      abbrev fits_alone : Bool
      fits_alone = fits (weight_of {K = K} {V = V}) capacity row.info.policy_weight []

      abbrev wins_here : Bool
      wins_here = count_of admitted row == 0 || wins (n, row) (take (count_of admitted row) admitted)

      abbrev Judged : Part (ℕ × Row K V) → Type 0
      Judged part = judge weight_of capacity wins admitted (n, row) rest ≡ part

      abbrev drops : Part (ℕ × Row K V)
      drops = dropping admitted (n, row) rest

      abbrev admits : Part (ℕ × Row K V)
      admits = admitting (count_of admitted row) admitted (n, row) rest

      -- a row that is heavier than the capacity is dropped
      pub drops-heavy : is_within capacity (row.info.policy_weight + 0) ≡ false → Judged drops
      drops-heavy heavy = cond-false fits_alone (cond wins_here admits drops) drops (fits-within {K = K} {V = V} capacity row.info.policy_weight [] ∙ heavy)

      module _ (alone : is_within capacity (row.info.policy_weight + 0) ≡ true) (count : ℕ) (count_is : count ≡ count_of admitted row) where
        by-wins : (part : Part (ℕ × Row K V)) → cond wins_here admits drops ≡ part → Judged part
        by-wins part is = cond-true fits_alone (cond wins_here admits drops) drops (fits-within {K = K} {V = V} capacity row.info.policy_weight [] ∙ alone) ∙ is

        -- one that needs no victims is admitted,
        pub admits-none : (count == 0) ≡ true → Judged admits
        admits-none none =
            let here : (count_of admitted row == 0) ≡ true = ap (λ k. k == 0) (sym count_is) ∙ none in
            by-wins admits (cond-true wins_here admits drops (ap (λ b. b || wins (n, row) (take (count_of admitted row) admitted)) here))

        won-is : (won : Bool) → won ≡ hash_wins is_lru frequency_of row.hash (take count admitted) → wins (n, row) (take (count_of admitted row) admitted) ≡ won
        won-is won is = ap (λ k. wins (n, row) (take k admitted)) (sym count_is) ∙ sym is

        -- and one that wins,
        pub admits-won : (won : Bool) → won ≡ hash_wins is_lru frequency_of row.hash (take count admitted) → won ≡ true → Judged admits
        admits-won won is so = by-wins admits (cond-true wins_here admits drops (or_true (count_of admitted row == 0) (wins (n, row) (take (count_of admitted row) admitted)) (won-is won is ∙ so)))
          where
            or_true : (s t : Bool) → t ≡ true → (s || t) ≡ true
            or_true true t e = refl
            or_true false t e = e

        -- as each does under LRU,
        pub admits-lru : is_lru ≡ true → Judged admits
        admits-lru lru = admits-won true (sym (ap (λ b. b || nat_le (frequencies frequency_of (take count admitted) + 1) (frequency_of row.hash)) lru)) refl

        -- and one that needs some and does not win is dropped
        pub drops-lost : (count == 0) ≡ false → (won : Bool) → won ≡ hash_wins is_lru frequency_of row.hash (take count admitted) → won ≡ false → Judged drops
        drops-lost some won is lost =
            let here : (count_of admitted row == 0) ≡ false = ap (λ k. k == 0) (sym count_is) ∙ some in
            by-wins drops (cond-false wins_here admits drops (ap (λ b. b || wins (n, row) (take (count_of admitted row) admitted)) here ∙ won-is won is ∙ lost))

    module _ (old new : Contents K V) (n : ℕ) (row : Row K V) (limit less : Option ℕ) (is_cut : Bool) (apart : NumbersDiffer (entries old)) (first_is : Some n ≡ first_number old.waiting) (there : row_under n (entries old) ≡ Some row) where
      -- the first row was judged, if what was done is what the verdict says
      pub judges-by : (part : List (ℕ × Row K V) → Part (ℕ × Row K V)) → ((rest : List (ℕ × Row K V)) → judge weight_of capacity wins old.admitted (n, row) rest ≡ part rest)
          → ((rest : List (ℕ × Row K V)) → old.waiting ≡ (n, row) ∷ rest → DoesParts (notice_for Size) limit (part rest ∷ []) old new less is_cut)
          → (first : ℕ × Row K V) × (rest : List (ℕ × Row K V)) × JudgesFirst is_lru frequency_of capacity limit first rest old new less is_cut
      judges-by part verdict did =
          let begins = first-waits old n row apart first_is there in (
            (n, row),
            begins.0,
            record {
              waited = begins.1;
              does = subst (λ (p : Part (ℕ × Row K V)). DoesParts (notice_for Size) limit (p ∷ []) old new less is_cut) (sym (verdict begins.0)) (did begins.0 begins.1);
            },
          )

      -- the table after an admission, once its victims were evicted
      pub admits-does : (rest : List (ℕ × Row K V)) → old.waiting ≡ (n, row) ∷ rest → (between : Contents K V) → between.admitted ≡ drop (count_of old.admitted row) old.admitted → between.waiting ≡ old.waiting
          → between.notices ≡ old.notices ++ notices_for Size (take (count_of old.admitted row) old.admitted)
          → new.waiting ≡ without_row n between.waiting → IfSome (row_under n between.waiting) (λ r. new.admitted ≡ between.admitted ++ (n, r) ∷ []) → new.notices ≡ between.notices
          → lets_leave limit (count_of old.admitted row) ≡ true → less ≡ limit_less limit (count_of old.admitted row)
          → DoesParts (notice_for Size) limit (admitting (count_of old.admitted row) old.admitted (n, row) rest ∷ []) old new less false
      admits-does rest waited between kept same gone without behind noticed lets is =
          let waiting : between.waiting ≡ (n, row) ∷ rest = same ∙ waited in
          let waits : row_under n between.waiting ≡ Some row = ap (row_under n) waiting ∙ row_under-at n row [] rest refl in
          let last : new.admitted ≡ between.admitted ++ (n, row) ∷ [] = rw waits at behind in
          let many = victims-many old.admitted row in
          does-one (notice_for Size) limit (admitting (count_of old.admitted row) old.admitted (n, row) rest) old less (ap (lets_leave limit) many ∙ lets) (is ∙ ap (limit_less limit) (sym many)) new
          (queues-are new (drop (count_of old.admitted row) old.admitted ++ (n, row) ∷ []) rest (last ∙ ap (λ l. l ++ (n, row) ∷ []) kept) (without ∙ ap (without_row n) waiting ∙ without_row-at n row [] rest refl)) (noticed ∙ gone)

      -- if the limit does not allow so many removals
      pub admits-not : (rest : List (ℕ × Row K V)) → lets_leave limit (count_of old.admitted row) ≡ false → less ≡ limit
          → DoesParts (notice_for Size) limit (admitting (count_of old.admitted row) old.admitted (n, row) rest ∷ []) old old less true
      admits-not rest stops is = does-not (notice_for Size) limit (admitting (count_of old.admitted row) old.admitted (n, row) rest) old less (ap (lets_leave limit) (victims-many old.admitted row) ∙ stops) is

    -- the judgements that are left behind the first, where it was done
    module _ (limit less : Option ℕ) (first : ℕ × Row K V) (rest : List (ℕ × Row K V)) (old new : Contents K V) where
      pub judged-first : JudgesFirst is_lru frequency_of capacity limit first rest old new less false
          → (new.waiting ≡ rest) × (new.admitted ≡ (judge weight_of capacity wins old.admitted first rest).after.admitted)
      judged-first judges =
          let part : Part (ℕ × Row K V) = judge weight_of capacity wins old.admitted first rest in
          let after : rows_of new ≡ part.after = does-after (notice_for Size) limit (part ∷ []) old new less judges.does in
          let still : part.after.waiting ≡ rest = judge_both weight_of capacity wins old.admitted first rest (λ p. p.after.waiting ≡ rest) (λ _. refl) refl in
          (ap (λ (q : Queues (ℕ × Row K V)). q.waiting) after ∙ still, ap (λ (q : Queues (ℕ × Row K V)). q.admitted) after)

      module _ (limit0 : Option ℕ) (ps0 : List (Part (ℕ × Row K V))) (start : Contents K V)
          (on : Resumes (notice_for Size) limit0 ps0 start limit (judgements is_lru frequency_of capacity old) old) where
        here : JudgesHere old first rest → Resumes (notice_for Size) limit0 ps0 start limit (judge weight_of capacity wins old.admitted first rest ∷ judged weight_of capacity wins (judge weight_of capacity wins old.admitted first rest).after.admitted rest) old
        here waited = subst (λ l. Resumes (notice_for Size) limit0 ps0 start limit (judged weight_of capacity wins old.admitted l) old) waited on

        pub judging-on : JudgesFirst is_lru frequency_of capacity limit first rest old new less false → Resumes (notice_for Size) limit0 ps0 start less (judgements is_lru frequency_of capacity new) new
        judging-on judges =
            let part : Part (ℕ × Row K V) = judge weight_of capacity wins old.admitted first rest in
            let after = judged-first judges in
            let behind : Resumes (notice_for Size) limit0 ps0 start less (judged weight_of capacity wins part.after.admitted rest) new =
            resumes-behind (notice_for Size) limit0 ps0 start limit (part ∷ []) (judged weight_of capacity wins part.after.admitted rest) old (here judges.waited) new less judges.does in
            subst (λ a. Resumes (notice_for Size) limit0 ps0 start less (judged weight_of capacity wins a new.waiting) new) (sym after.1)
            (subst (λ l. Resumes (notice_for Size) limit0 ps0 start less (judged weight_of capacity wins part.after.admitted l) new) (sym after.0) behind)

        pub judging-cut : JudgesFirst is_lru frequency_of capacity limit first rest old new less true → DoesParts (notice_for Size) limit0 ps0 start new less true
        judging-cut judges =
            let part : Part (ℕ × Row K V) = judge weight_of capacity wins old.admitted first rest in
            resumes-within (notice_for Size) limit0 ps0 start limit (part ∷ []) (judged weight_of capacity wins part.after.admitted rest) old (here judges.waited) new less judges.does
