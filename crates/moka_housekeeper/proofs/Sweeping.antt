-- A sweep of the rows of an order, by a walk: the dead leave, as far as a limit lets.
use Rattle.std.proofs.Common.{◌≡◌, ℕ, suc, Bool, if◌then◌else◌, true, false, not, Option, Some, List, [], ◌∷◌, ◌++◌, length, refl, sym, ap, subst, ◌∙◌, append_assoc}
use Rattle.moka_model.specs.Maintenance.{Queues, Part, dead_waiting}
use Rattle.moka_model.specs.MaintenanceLaws.{queues}
use Rattle.moka_rows.specs.declared.rows.Row.{Row}
use Rattle.moka_rows.specs.Rows.{without_row, first_number, is_dead, NumbersDiffer}
use Rattle.moka_table.specs.Table.{Contents}
use Rattle.moka_housekeeper.specs.Maintain.{notice_dead, lets_leave, limit_less, rows_of, DoesParts}
use Rattle.moka_rows.proofs.Callers.{rows_from, rows_from-first, without_row-at, rows_from-at, differ-without}
use Rattle.moka_table.proofs.Callers.{Walks, AtCursor, walks-first, walks-on}
use Rattle.moka_housekeeper.proofs.FirstDead.{admitted_parts, sweep-dead, sweep-alive}
use Rattle.moka_housekeeper.proofs.Resuming.{Resumes, resumes-cut, resumes-over}

module _ {K V : Type 0} where
  -- A sweep on its way: those kept are passed, and the rest is ahead of the cursor.
  pub record Sweeps (rows : List (ℕ × Row K V)) (cursor : Option ℕ) (kept rest : List (ℕ × Row K V)) : Type 0 where
    pub walks : Walks rows cursor kept rest
    pub ahead : rows_from cursor rows ≡ rest

  pub sweeps-first : (rows : List (ℕ × Row K V)) (cursor : Option ℕ) → cursor ≡ first_number rows → Sweeps rows cursor [] rows
  sweeps-first rows cursor at_first = record {
    walks = walks-first rows cursor at_first;
    ahead = rw at_first (rows_from-first rows);
  }

  module _ (rows : List (ℕ × Row K V)) (n : ℕ) (kept rest : List (ℕ × Row K V)) (swept : Sweeps rows (Some n) kept rest)
      (row : Row K V) (cursor : Option ℕ) (back : List (ℕ × Row K V)) (here : AtCursor rows kept rest n row cursor back) where
    -- the rest is one row shorter behind the cursor
    pub rest-shorter : length rest ≡ suc (length back)
    rest-shorter = ap length here.rest_is

    -- the rows after the removal of the row
    pub row-left : (rows' : List (ℕ × Row K V)) → rows' ≡ without_row n rows → rows' ≡ kept ++ back
    row-left rows' without = without ∙ ap (without_row n) here.whole ∙ without_row-at n row kept back here.absent

    -- A sweep goes on over a row that leaves,
    pub sweeps-over_dead : (rows' : List (ℕ × Row K V)) → rows' ≡ without_row n rows → Sweeps rows' cursor kept back
    sweeps-over_dead rows' without =
        let left : rows' ≡ kept ++ back = row-left rows' without in
        record {
          walks = record { whole = left; cursor_at = here.behind };
          ahead = ap (λ o. rows_from o rows') here.behind ∙ ap (rows_from (first_number back)) left ∙ rows_from-at kept back (differ-without n row kept back here.apart);
        }

    -- and over one that is kept
    pub sweeps-over_alive : Sweeps rows cursor (kept ++ (n, row) ∷ []) back
    sweeps-over_alive =
        let on = walks-on rows kept rest n row cursor back here in
        record {
          walks = on;
          ahead = ap (λ o. rows_from o rows) here.behind ∙ ap (rows_from (first_number back)) on.whole
              ∙ rows_from-at (kept ++ (n, row) ∷ []) back (subst (λ (l : List (ℕ × Row K V)). NumbersDiffer l) (sym (append_assoc kept ((n, row) ∷ []) back)) here.apart);
        }

-- The parts of a sweep, given those kept and the rest: the same for both orders, but for what the queues are.
module _ {K V : Type 0} (at : ℕ) (parts_of : List (ℕ × Row K V) → List (ℕ × Row K V) → List (Part (ℕ × Row K V))) (stands : List (ℕ × Row K V) → Queues (ℕ × Row K V)) where
  pub record AreSweepParts : Type 0 where
    pub none : (kept : List (ℕ × Row K V)) → parts_of kept [] ≡ []
    pub dead : (kept back : List (ℕ × Row K V)) (p : ℕ × Row K V) → is_dead at p ≡ true → parts_of kept (p ∷ back) ≡ record { evicted = p ∷ []; after = stands (kept ++ back) } ∷ parts_of kept back
    pub alive : (kept back : List (ℕ × Row K V)) (p : ℕ × Row K V) → is_dead at p ≡ false → parts_of kept (p ∷ back) ≡ parts_of (kept ++ p ∷ []) back

  module _ (are : AreSweepParts) (limit0 : Option ℕ) (ps0 : List (Part (ℕ × Row K V))) (old : Contents K V) (limit : Option ℕ) (table : Contents K V)
      (kept rest back : List (ℕ × Row K V)) (p : ℕ × Row K V) (rest_is : rest ≡ p ∷ back) (on : Resumes notice_dead limit0 ps0 old limit (parts_of kept rest) table) where
    here : Resumes notice_dead limit0 ps0 old limit (parts_of kept (p ∷ back)) table
    here = subst (λ r. Resumes notice_dead limit0 ps0 old limit (parts_of kept r) table) rest_is on

    at_dead : is_dead at p ≡ true → Resumes notice_dead limit0 ps0 old limit (record { evicted = p ∷ []; after = stands (kept ++ back) } ∷ parts_of kept back) table
    at_dead gone = subst (λ ps. Resumes notice_dead limit0 ps0 old limit ps table) (are.dead kept back p gone) here

    -- what is left over a row that lives,
    pub resumes-alive : is_dead at p ≡ false → Resumes notice_dead limit0 ps0 old limit (parts_of (kept ++ p ∷ []) back) table
    resumes-alive lives = subst (λ ps. Resumes notice_dead limit0 ps0 old limit ps table) (are.alive kept back p lives) here

    -- over a dead one, which leaves,
    pub resumes-dead : is_dead at p ≡ true → lets_leave limit 1 ≡ true → (new : Contents K V) → rows_of new ≡ stands (kept ++ back) → new.notices ≡ table.notices ++ notice_dead p ∷ []
        → (less : Option ℕ) → less ≡ limit_less limit 1 → Resumes notice_dead limit0 ps0 old less (parts_of kept back) new
    resumes-dead gone lets new after noticed less is =
        resumes-over notice_dead limit0 ps0 old limit (record { evicted = p ∷ []; after = stands (kept ++ back) }) (parts_of kept back) table (at_dead gone) lets new after noticed less is

    -- and at one that the limit does not let leave
    pub resumes-stops : is_dead at p ≡ true → lets_leave limit 1 ≡ false → (less : Option ℕ) → less ≡ limit → DoesParts notice_dead limit0 ps0 old table less true
    resumes-stops gone stops less is =
        subst (λ l. DoesParts notice_dead limit0 ps0 old table l true) (sym is)
        (resumes-cut notice_dead limit0 ps0 old limit (record { evicted = p ∷ []; after = stands (kept ++ back) }) (parts_of kept back) table (at_dead gone) stops)

module _ {K V : Type 0} (at : ℕ) where
  pub are-admitted : (waiting : List (ℕ × Row K V)) → AreSweepParts at (admitted_parts at waiting) (λ l. queues l waiting)
  are-admitted waiting = record { none = λ kept. refl; dead = sweep-dead at waiting; alive = sweep-alive at waiting }

  -- the parts of a sweep of those that wait
  abbrev pub waiting_parts : List (ℕ × Row K V) → List (ℕ × Row K V) → List (ℕ × Row K V) → List (Part (ℕ × Row K V))
  waiting_parts admitted kept rest = dead_waiting (λ p. not (is_dead at p)) admitted kept rest

  pub are-waiting : (admitted : List (ℕ × Row K V)) → AreSweepParts at (waiting_parts admitted) (λ l. queues admitted l)
  are-waiting admitted = record { none = λ kept. refl; dead = λ kept back p gone. rw gone refl; alive = λ kept back p lives. rw lives refl }

-- the queues of a table, given both orders
pub queues-are : {K V : Type 0} (table : Contents K V) (admitted waiting : List (ℕ × Row K V)) → table.admitted ≡ admitted → table.waiting ≡ waiting → rows_of table ≡ queues admitted waiting
queues-are table admitted waiting a w = ap (λ l. queues l table.waiting) a ∙ ap (λ l. queues admitted l) w

-- what the code knows after it has tried to take a count from the limit
module _ (limit rest : Option ℕ) (count : ℕ) (lets : Bool) (is : lets ≡ lets_leave limit count) (left : rest ≡ (if lets then limit_less limit count else limit)) where
  pub spent : lets ≡ true → (lets_leave limit count ≡ true) × (rest ≡ limit_less limit count)
  spent does = (sym is ∙ does, rw does at left)

  pub unspent : lets ≡ false → (lets_leave limit count ≡ false) × (rest ≡ limit)
  unspent does_not = (sym is ∙ does_not, rw does_not at left)
