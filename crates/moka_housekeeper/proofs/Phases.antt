-- The phases of a maintenance within a limit, one after the other, are the whole.
use Rattle.std.proofs.Common.{◌≡◌, ℕ, ◌<◌, ◌-◌, ◌^◌, Bool, true, false, not, ◌&&◌, cond, nat_le, Option, Some, None, List, [], ◌∷◌, ◌++◌, length, map, drop, refl, sym, ap, subst, ◌∙◌}
use Rattle.std.specs.List.{All, AllByRecursion}
use Rattle.std.proofs.lemmas.Bool.{true≢false, cond_both}
use Rattle.std.proofs.lemmas.List.Elements.{All-take, All-drop, filter_passes, recursion_from_All}
use Rattle.moka_model.specs.declared.notification.Notice.{Notice}
use Rattle.moka_model.specs.declared.notification.RemovalCause.TheVariants.{Expired, Explicit, Size}
use Rattle.moka_model.specs.Lives.{has_come}
use Rattle.moka_model.specs.Maintenance.{Queues, Part, front, dead_admitted, dead_waiting, over, judged, done, evicted_in, after_parts}
use Rattle.moka_model.specs.MaintenanceLaws.{queues}
use Rattle.moka_model.proofs.Callers.{evicted-dead_admitted, after-dead_admitted, evicted-dead_waiting, after-dead_waiting, evicted-over, after-over, All-evicted-judged}
use Rattle.moka_expiration.specs.declared.expiration_policy.ExpirationPolicy.{ExpirationPolicy}
use Rattle.moka_rows.specs.declared.rows.Row.{Row}
use Rattle.moka_rows.specs.Rows.{is_dead, living_at}
use Rattle.moka_rows.proofs.Callers.{all-append, all-front, all-back}
use Rattle.moka_expiration.specs.ExpirationPolicy.{deadline_of, IsDated, AreDated}
use Rattle.moka_table.specs.Table.{Contents, entries, weight_of}
use Rattle.moka_housekeeper.specs.Maintain.{is_alive, living, notice_for, notice_dead, notice_at, row_wins, rows_of, row_parts, judgements, DoesParts, IsMaintainedUpTo}
use Rattle.moka_housekeeper.proofs.FirstDead.{alive-dated, living-dated}
use Rattle.moka_housekeeper.proofs.Resuming.{Resumes, resumes-first, resumes-behind, resumes-within, resumes-last, does-noticed, does-after}

-- what holds of all rows that the parts would remove holds of all that they do remove within a limit
all-done : {X : Type 0} (P : X → Type 0) (limit : Option ℕ) (ps : List (Part X)) → AllByRecursion P (evicted_in ps) → AllByRecursion P (evicted_in (done limit ps))
all-done P None ps all = all
all-done P (Some limit) [] all = all
all-done P (Some limit) (p ∷ ps) all =
    cond_both (nat_le (length p.evicted) limit) (p ∷ done (Some (limit - length p.evicted)) ps) [] (λ l. AllByRecursion P (evicted_in l))
    (λ _. all-append P p.evicted (evicted_in (done (Some (limit - length p.evicted)) ps)) (all-front P p.evicted (evicted_in ps) all) (all-done P (Some (limit - length p.evicted)) ps (all-back P p.evicted (evicted_in ps) all)))
    (λ _. tt)

-- without a limit no phase is cut
pub none-cut : {K V : Type 0} (notice : ℕ × Row K V → Notice K V) (limit : Option ℕ) (ps : List (Part (ℕ × Row K V))) (old new : Contents K V) (rest : Option ℕ) (is_cut : Bool)
    → DoesParts notice limit ps old new rest is_cut → limit ≡ None → (is_cut ≡ false) × (rest ≡ None)
none-cut notice limit ps old new rest is_cut did none =
    let free = subst (λ l. DoesParts notice l ps old new rest is_cut) none did in
    (free.left, free.rest_is)

module _ {K V : Type 0} (at : ℕ) where
  -- the rows after each sweep that is not cut,
  pub swept-admitted : (limit : Option ℕ) (old new : Contents K V) (rest : Option ℕ) → DoesParts notice_dead limit (dead_admitted (λ p. not (is_dead at p)) [] old.admitted old.waiting) old new rest false
      → (new.admitted ≡ living_at at old.admitted) × (new.waiting ≡ old.waiting)
  swept-admitted limit old new rest did =
      let after : rows_of new ≡ queues (living_at at old.admitted) old.waiting =
      does-after notice_dead limit (dead_admitted (λ p. not (is_dead at p)) [] old.admitted old.waiting) old new rest did ∙ after-dead_admitted (λ p. not (is_dead at p)) [] old.admitted old.waiting in
      (ap (λ (q : Queues (ℕ × Row K V)). q.admitted) after, ap (λ (q : Queues (ℕ × Row K V)). q.waiting) after)

  pub swept-waiting : (limit : Option ℕ) (old new : Contents K V) (rest : Option ℕ) → DoesParts notice_dead limit (dead_waiting (λ p. not (is_dead at p)) old.admitted [] old.waiting) old new rest false
      → (new.admitted ≡ old.admitted) × (new.waiting ≡ living_at at old.waiting)
  swept-waiting limit old new rest did =
      let after : rows_of new ≡ queues old.admitted (living_at at old.waiting) =
      does-after notice_dead limit (dead_waiting (λ p. not (is_dead at p)) old.admitted [] old.waiting) old new rest did ∙ after-dead_waiting (λ p. not (is_dead at p)) old.admitted [] old.waiting in
      (ap (λ (q : Queues (ℕ × Row K V)). q.admitted) after, ap (λ (q : Queues (ℕ × Row K V)). q.waiting) after)

-- and after the rows over the capacity were evicted
pub shrunk-rows : {K V : Type 0} (capacity limit : Option ℕ) (old new : Contents K V) (rest : Option ℕ) → DoesParts (notice_for Size) limit (over weight_of capacity old.admitted old.waiting) old new rest false
    → (new.admitted ≡ drop (front weight_of capacity 0 old.admitted) old.admitted) × (new.waiting ≡ old.waiting)
shrunk-rows {K} {V} capacity limit old new rest did =
    let after : rows_of new ≡ queues (drop (front weight_of capacity 0 old.admitted) old.admitted) old.waiting =
    does-after (notice_for Size) limit (over weight_of capacity old.admitted old.waiting) old new rest did ∙ after-over weight_of capacity old.admitted old.waiting in
    (ap (λ (q : Queues (ℕ × Row K V)). q.admitted) after, ap (λ (q : Queues (ℕ × Row K V)). q.waiting) after)

-- the same rows and notices
same-resumes : {K V : Type 0} (notice : ℕ × Row K V → Notice K V) (limit0 : Option ℕ) (ps0 : List (Part (ℕ × Row K V))) (old : Contents K V) (limit : Option ℕ) (ps : List (Part (ℕ × Row K V))) (table new : Contents K V)
    → rows_of new ≡ rows_of table → new.notices ≡ table.notices → Resumes notice limit0 ps0 old limit ps table → Resumes notice limit0 ps0 old limit ps new
same-resumes notice limit0 ps0 old limit ps table new rows notices on = record {
  orders = ap (λ q. after_parts q (done limit ps)) rows ∙ on.orders;
  notices = ap (λ l. l ++ map notice (evicted_in (done limit ps))) notices ∙ on.notices;
  rest_is = on.rest_is;
  left = on.left;
}

module _ {K V : Type 0} (lives : ExpirationPolicy) (at : ℕ) where
  -- the notices of dead rows have the cause `Explicit` or `Expired`
  noticed-dead : (rows : List (ℕ × Row K V)) → AllByRecursion (λ p. not (is_alive lives at p) ≡ true) rows → map notice_dead rows ≡ map (notice_at lives at) rows
  noticed-dead [] all = refl
  noticed-dead (p ∷ ps) all =
      ap (λ c. notice_for c p ∷ map notice_dead ps) (as_dead p.1.info.is_hidden (has_come (deadline_of lives p.1.info) at) all.0)
      ∙ ap (λ l. notice_at lives at p ∷ l) (noticed-dead ps all.1)
    where
      as_dead : (h c : Bool) → not (not h && not c) ≡ true → cond h Explicit Expired ≡ cond h Explicit (cond c Expired Size)
      as_dead true c e = refl
      as_dead false true e = refl
      as_dead false false e = absurd (true≢false (sym e))

  -- and those of live rows have the cause `Size`
  noticed-living : (rows : List (ℕ × Row K V)) → AllByRecursion (λ p. is_alive lives at p ≡ true) rows → map (notice_for Size) rows ≡ map (notice_at lives at) rows
  noticed-living [] all = refl
  noticed-living (p ∷ ps) all =
      ap (λ c. notice_for c p ∷ map (notice_for Size) ps) (for_size p.1.info.is_hidden (has_come (deadline_of lives p.1.info) at) all.0)
      ∙ ap (λ l. notice_at lives at p ∷ l) (noticed-living ps all.1)
    where
      for_size : (h c : Bool) → (not h && not c) ≡ true → Size ≡ cond h Explicit (cond c Expired Size)
      for_size true c e = absurd (true≢false (sym e))
      for_size false true e = absurd (true≢false (sym e))
      for_size false false e = refl

  module _ (is_moment : at < 2 ^ 64) where
    -- the parts of the sweeps, by the deadlines that the rows keep
    parts-admitted : (kept rows waiting : List (ℕ × Row K V)) → AreDated lives rows → dead_admitted (λ p. not (is_dead at p)) kept rows waiting ≡ dead_admitted (is_alive lives at) kept rows waiting
    parts-admitted kept [] waiting dated = refl
    parts-admitted kept (p ∷ ps) waiting dated =
        let part : Part (ℕ × Row K V) = record { evicted = p ∷ []; after = queues (kept ++ ps) waiting } in
        ap (λ b. cond b (dead_admitted (λ p. not (is_dead at p)) (kept ++ p ∷ []) ps waiting) (part ∷ dead_admitted (λ p. not (is_dead at p)) kept ps waiting)) (alive-dated lives at is_moment p dated.0)
        ∙ ap (λ l. cond (is_alive lives at p) l (part ∷ dead_admitted (λ p. not (is_dead at p)) kept ps waiting)) (parts-admitted (kept ++ p ∷ []) ps waiting dated.1)
        ∙ ap (λ l. cond (is_alive lives at p) (dead_admitted (is_alive lives at) (kept ++ p ∷ []) ps waiting) (part ∷ l)) (parts-admitted kept ps waiting dated.1)

    parts-waiting : (admitted kept rows : List (ℕ × Row K V)) → AreDated lives rows → dead_waiting (λ p. not (is_dead at p)) admitted kept rows ≡ dead_waiting (is_alive lives at) admitted kept rows
    parts-waiting admitted kept [] dated = refl
    parts-waiting admitted kept (p ∷ ps) dated =
        let part : Part (ℕ × Row K V) = record { evicted = p ∷ []; after = queues admitted (kept ++ ps) } in
        ap (λ b. cond b (dead_waiting (λ p. not (is_dead at p)) admitted (kept ++ p ∷ []) ps) (part ∷ dead_waiting (λ p. not (is_dead at p)) admitted kept ps)) (alive-dated lives at is_moment p dated.0)
        ∙ ap (λ l. cond (is_alive lives at p) l (part ∷ dead_waiting (λ p. not (is_dead at p)) admitted kept ps)) (parts-waiting admitted (kept ++ p ∷ []) ps dated.1)
        ∙ ap (λ l. cond (is_alive lives at p) (dead_waiting (is_alive lives at) admitted (kept ++ p ∷ []) ps) (part ∷ l)) (parts-waiting admitted kept ps dated.1)

    module _ (is_lru : Bool) (frequency_of : ℕ → ℕ) (capacity limit : Option ℕ) (old : Contents K V) (dated : AreDated lives (entries old)) where
      abbrev wins : ℕ × Row K V → List (ℕ × Row K V) → Bool
      wins = row_wins is_lru frequency_of

      abbrev alive : ℕ × Row K V → Bool
      alive = is_alive lives at

      abbrev Lives_on : ℕ × Row K V → Type 0
      Lives_on p = is_alive lives at p ≡ true

      abbrev Rows : Type 0
      Rows = List (ℕ × Row K V)

      abbrev Parts : Type 0
      Parts = List (Part (ℕ × Row K V))

      admitted_dated : AreDated lives old.admitted
      admitted_dated = all-front (λ p. IsDated lives p.1.info) old.admitted old.waiting dated

      waiting_dated : AreDated lives old.waiting
      waiting_dated = all-back (λ p. IsDated lives p.1.info) old.admitted old.waiting dated

      abbrev admitted : Rows
      admitted = living lives at old.admitted

      abbrev waiting : Rows
      waiting = living lives at old.waiting

      abbrev within : Rows
      within = drop (front weight_of capacity 0 admitted) admitted

      abbrev sweep1 : Parts
      sweep1 = dead_admitted alive [] old.admitted old.waiting

      abbrev sweep2 : Parts
      sweep2 = dead_waiting alive admitted [] old.waiting

      abbrev too_many : Parts
      too_many = over weight_of capacity admitted waiting

      abbrev judges : Parts
      judges = judged weight_of capacity wins within waiting

      abbrev whole : Parts
      whole = row_parts lives is_lru frequency_of capacity at old

      abbrev Ends : Contents K V → Bool → Type 0
      Ends new is_cut = IsMaintainedUpTo lives is_lru frequency_of capacity at limit old new is_cut

      abbrev Goes : Option ℕ → Parts → Contents K V → Type 0
      Goes less ps table = Resumes (notice_at lives at) limit whole old less ps table

      ends : (new : Contents K V) (less : Option ℕ) (is_cut : Bool) → DoesParts (notice_at lives at) limit whole old new less is_cut → Ends new is_cut
      ends new less is_cut did = record { orders = did.orders; notices = did.notices; left = did.left }

      -- The admitted are swept,
      module _ (swept : Contents K V) (l1 : Option ℕ) (cut1 : Bool) (did : DoesParts notice_dead limit (dead_admitted (λ p. not (is_dead at p)) [] old.admitted old.waiting) old swept l1 cut1) where
        first : DoesParts (notice_at lives at) limit sweep1 old swept l1 cut1
        first =
            let all : AllByRecursion (λ p. not (is_alive lives at p) ≡ true) (evicted_in sweep1) =
            subst (λ l. AllByRecursion (λ p. not (is_alive lives at p) ≡ true) l) (sym (evicted-dead_admitted alive [] old.admitted old.waiting)) (recursion_from_All (λ p. not (is_alive lives at p) ≡ true) _ (filter_passes (λ p. not (alive p)) old.admitted)) in
            does-noticed notice_dead (notice_at lives at) limit sweep1 old swept l1 cut1 (noticed-dead (evicted_in (done limit sweep1)) (all-done (λ p. not (is_alive lives at p) ≡ true) limit sweep1 all))
            (subst (λ ps. DoesParts notice_dead limit ps old swept l1 cut1) (parts-admitted [] old.admitted old.waiting admitted_dated) did)

        start : Goes limit (sweep1 ++ (sweep2 ++ (too_many ++ judges))) old
        start = resumes-first (notice_at lives at) limit whole old

        pub cut-first : cut1 ≡ true → Ends swept true
        cut-first is = ends swept l1 true (resumes-within (notice_at lives at) limit whole old limit sweep1 (sweep2 ++ (too_many ++ judges)) old start swept l1 (subst (λ b. DoesParts (notice_at lives at) limit sweep1 old swept l1 b) is first))

        -- then those that wait,
        module _ (is1 : cut1 ≡ false) (come : Contents K V) (l2 : Option ℕ) (cut2 : Bool) (did2 : DoesParts notice_dead l1 (dead_waiting (λ p. not (is_dead at p)) swept.admitted [] swept.waiting) swept come l2 cut2) where
          after1 : (swept.admitted ≡ living_at at old.admitted) × (swept.waiting ≡ old.waiting)
          after1 = swept-admitted at limit old swept l1 (subst (λ b. DoesParts notice_dead limit (dead_admitted (λ p. not (is_dead at p)) [] old.admitted old.waiting) old swept l1 b) is1 did)

          swept_admitted : swept.admitted ≡ admitted
          swept_admitted = after1.0 ∙ living-dated lives at is_moment old.admitted admitted_dated

          parts2 : dead_waiting (λ p. not (is_dead at p)) swept.admitted [] swept.waiting ≡ sweep2
          parts2 = ap (λ l. dead_waiting (λ p. not (is_dead at p)) l [] swept.waiting) swept_admitted ∙ ap (λ l. dead_waiting (λ p. not (is_dead at p)) admitted [] l) after1.1 ∙ parts-waiting admitted [] old.waiting waiting_dated

          second : DoesParts (notice_at lives at) l1 sweep2 swept come l2 cut2
          second =
              let all : AllByRecursion (λ p. not (is_alive lives at p) ≡ true) (evicted_in sweep2) =
              subst (λ l. AllByRecursion (λ p. not (is_alive lives at p) ≡ true) l) (sym (evicted-dead_waiting alive admitted [] old.waiting)) (recursion_from_All (λ p. not (is_alive lives at p) ≡ true) _ (filter_passes (λ p. not (alive p)) old.waiting)) in
              does-noticed notice_dead (notice_at lives at) l1 sweep2 swept come l2 cut2 (noticed-dead (evicted_in (done l1 sweep2)) (all-done (λ p. not (is_alive lives at p) ≡ true) l1 sweep2 all))
              (subst (λ ps. DoesParts notice_dead l1 ps swept come l2 cut2) parts2 did2)

          goes2 : Goes l1 (sweep2 ++ (too_many ++ judges)) swept
          goes2 = resumes-behind (notice_at lives at) limit whole old limit sweep1 (sweep2 ++ (too_many ++ judges)) old start swept l1 (subst (λ b. DoesParts (notice_at lives at) limit sweep1 old swept l1 b) is1 first)

          pub cut-second : cut2 ≡ true → Ends come true
          cut-second is = ends come l2 true (resumes-within (notice_at lives at) limit whole old l1 sweep2 (too_many ++ judges) swept goes2 come l2 (subst (λ b. DoesParts (notice_at lives at) l1 sweep2 swept come l2 b) is second))

          -- then what is over the capacity leaves,
          module _ (is2 : cut2 ≡ false) (shown : Contents K V) (same_admitted : shown.admitted ≡ come.admitted) (same_waiting : shown.waiting ≡ come.waiting) (same_notices : shown.notices ≡ come.notices)
              (shrunk : Contents K V) (l3 : Option ℕ) (cut3 : Bool) (did3 : DoesParts (notice_for Size) l2 (over weight_of capacity shown.admitted shown.waiting) shown shrunk l3 cut3) where
            after2 : (come.admitted ≡ swept.admitted) × (come.waiting ≡ living_at at swept.waiting)
            after2 = swept-waiting at l1 swept come l2 (subst (λ b. DoesParts notice_dead l1 (dead_waiting (λ p. not (is_dead at p)) swept.admitted [] swept.waiting) swept come l2 b) is2 did2)

            shown_admitted : shown.admitted ≡ admitted
            shown_admitted = same_admitted ∙ after2.0 ∙ swept_admitted

            shown_waiting : shown.waiting ≡ waiting
            shown_waiting = same_waiting ∙ after2.1 ∙ ap (living_at at) after1.1 ∙ living-dated lives at is_moment old.waiting waiting_dated

            admitted_live : All Lives_on admitted
            admitted_live = filter_passes alive old.admitted

            third : DoesParts (notice_at lives at) l2 too_many shown shrunk l3 cut3
            third =
                let all : AllByRecursion Lives_on (evicted_in too_many) =
                subst (λ l. AllByRecursion Lives_on l) (sym (evicted-over weight_of capacity admitted waiting)) (recursion_from_All Lives_on _ (All-take Lives_on (front weight_of capacity 0 admitted) admitted admitted_live)) in
                does-noticed (notice_for Size) (notice_at lives at) l2 too_many shown shrunk l3 cut3 (noticed-living (evicted_in (done l2 too_many)) (all-done Lives_on l2 too_many all))
                (subst (λ ps. DoesParts (notice_for Size) l2 ps shown shrunk l3 cut3) (ap (λ l. over weight_of capacity l shown.waiting) shown_admitted ∙ ap (λ l. over weight_of capacity admitted l) shown_waiting) did3)

            goes3 : Goes l2 (too_many ++ judges) shown
            goes3 = same-resumes (notice_at lives at) limit whole old l2 (too_many ++ judges) come shown (ap (λ l. queues l shown.waiting) same_admitted ∙ ap (λ l. queues come.admitted l) same_waiting) same_notices
                (resumes-behind (notice_at lives at) limit whole old l1 sweep2 (too_many ++ judges) swept goes2 come l2 (subst (λ b. DoesParts (notice_at lives at) l1 sweep2 swept come l2 b) is2 second))

            pub cut-third : cut3 ≡ true → Ends shrunk true
            cut-third is = ends shrunk l3 true (resumes-within (notice_at lives at) limit whole old l2 too_many judges shown goes3 shrunk l3 (subst (λ b. DoesParts (notice_at lives at) l2 too_many shown shrunk l3 b) is third))

            -- and each that waits is judged
            module _ (is3 : cut3 ≡ false) (new : Contents K V) (l4 : Option ℕ) (cut4 : Bool) (did4 : DoesParts (notice_for Size) l3 (judgements is_lru frequency_of capacity shrunk) shrunk new l4 cut4) where
              pub phases-end : Ends new cut4
              phases-end =
                  let after = shrunk-rows capacity l2 shown shrunk l3 (subst (λ b. DoesParts (notice_for Size) l2 (over weight_of capacity shown.admitted shown.waiting) shown shrunk l3 b) is3 did3) in
                  let stays : shrunk.admitted ≡ within = after.0 ∙ ap (λ l. drop (front weight_of capacity 0 l) l) shown_admitted in
                  let wait : shrunk.waiting ≡ waiting = after.1 ∙ shown_waiting in
                  let all : AllByRecursion Lives_on (evicted_in judges) = recursion_from_All Lives_on _ (All-evicted-judged weight_of capacity wins Lives_on within waiting (All-drop Lives_on (front weight_of capacity 0 admitted) admitted admitted_live) (filter_passes alive old.waiting)) in
                  let fourth : DoesParts (notice_at lives at) l3 judges shrunk new l4 cut4 =
                  does-noticed (notice_for Size) (notice_at lives at) l3 judges shrunk new l4 cut4 (noticed-living (evicted_in (done l3 judges)) (all-done Lives_on l3 judges all))
                  (subst (λ ps. DoesParts (notice_for Size) l3 ps shrunk new l4 cut4) (ap (λ l. judged weight_of capacity wins l shrunk.waiting) stays ∙ ap (λ l. judged weight_of capacity wins within l) wait) did4) in
                  let goes4 : Goes l3 judges shrunk = resumes-behind (notice_at lives at) limit whole old l2 too_many judges shown goes3 shrunk l3 (subst (λ b. DoesParts (notice_at lives at) l2 too_many shown shrunk l3 b) is3 third) in
                  ends new l4 cut4 (resumes-last (notice_at lives at) limit whole old l3 judges shrunk new l4 cut4 goes4 fourth)
