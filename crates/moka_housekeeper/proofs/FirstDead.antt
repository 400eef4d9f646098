-- The rows that are dead at a moment and those that live, and the leaving of the first that is dead.
use Rattle.std.proofs.Common.{◌≡◌, ℕ, suc, ◌+◌, ◌<◌, ◌≤◌, ◌==◌, ◌^◌, Bool, true, false, not, ◌||◌, cond, Some, None, List, [], ◌∷◌, length, ◌++◌, append_assoc, subst, refl, sym, ap, ◌∙◌, arith}
use Rattle.std.proofs.lemmas.Bool.{eq-eqb}
use Rattle.moka_model.specs.Lives.{has_come}
use Rattle.moka_rows.specs.declared.rows.Row.{Row}
use Rattle.moka_model.specs.declared.notification.RemovalCause.TheVariants.{Expired, Explicit}
use Rattle.moka_rows.specs.declared.rows.EntryInfo.{EntryInfo}
use Rattle.moka_rows.specs.Rows.{row_under, without_row, first_number, count_under, cause_at, expired_at, is_dead, dead_at, living_at}
use Rattle.moka_rows.proofs.Callers.{count_under-some}
use Rattle.moka_expiration.specs.declared.expiration_policy.ExpirationPolicy.{ExpirationPolicy}
use Rattle.moka_expiration.specs.ExpirationPolicy.{IsDated, AreDated}
use Rattle.moka_expiration.proofs.Callers.{alive-kept}
use Rattle.moka_table.specs.Table.{AreShown}
use Rattle.moka_model.specs.Maintenance.{dead_admitted, Part}
use Rattle.moka_model.specs.MaintenanceLaws.{queues}
use Rattle.moka_housekeeper.specs.Maintain.{is_alive, living, dead}

module _ {K V : Type 0} (at : ℕ) (waiting : List (ℕ × Row K V)) where
  -- the parts of a sweep of the admitted, given those kept and the rest
  abbrev pub admitted_parts : List (ℕ × Row K V) → List (ℕ × Row K V) → List (Part (ℕ × Row K V))
  admitted_parts kept rest = dead_admitted (λ p. not (is_dead at p)) kept rest waiting

  pub sweep-dead : (kept back : List (ℕ × Row K V)) (p : ℕ × Row K V) → is_dead at p ≡ true
      → admitted_parts kept (p ∷ back) ≡ record { evicted = p ∷ []; after = queues (kept ++ back) waiting } ∷ admitted_parts kept back
  sweep-dead kept back p gone = rw gone refl

  pub sweep-alive : (kept back : List (ℕ × Row K V)) (p : ℕ × Row K V) → is_dead at p ≡ false → admitted_parts kept (p ∷ back) ≡ admitted_parts (kept ++ p ∷ []) back
  sweep-alive kept back p lives = rw lives refl

twice : (b : Bool) → b ≡ not (not b)
twice true = refl
twice false = refl

-- the cause of a dead row's leaving
pub cause-dead : (info : EntryInfo) (at : ℕ) → cause_at Expired info at ≡ cond info.is_hidden Explicit Expired
cause-dead info at = go info.is_hidden (has_come info.deadline at)
  where
    go : (h c : Bool) → cond h Explicit (cond c Expired Expired) ≡ cond h Explicit Expired
    go true c = refl
    go false true = refl
    go false false = refl

module _ {K V : Type 0} where
  -- If a row has the deadline that these lives give it, its metadata and these lives agree on whether it is alive.
  pub alive-dated : (lives : ExpirationPolicy) (at : ℕ) → at < 2 ^ 64 → (p : ℕ × Row K V) → IsDated lives p.1.info → not (is_dead at p) ≡ is_alive lives at p
  alive-dated lives at is_moment p dated = sym (alive-kept lives p.1.info dated at is_moment)

  -- The same holds for all rows, alive or dead.
  pub living-dated : (lives : ExpirationPolicy) (at : ℕ) → at < 2 ^ 64 → (rows : List (ℕ × Row K V)) → AreDated lives rows → living_at at rows ≡ living lives at rows
  living-dated lives at is_moment [] dated = refl
  living-dated lives at is_moment (p ∷ ps) dated =
      ap (λ b. cond b (p ∷ living_at at ps) (living_at at ps)) (alive-dated lives at is_moment p dated.0)
      ∙ ap (λ l. cond (is_alive lives at p) (p ∷ l) l) (living-dated lives at is_moment ps dated.1)

  pub dead-dated : (lives : ExpirationPolicy) (at : ℕ) → at < 2 ^ 64 → (rows : List (ℕ × Row K V)) → AreDated lives rows → dead_at at rows ≡ dead lives at rows
  dead-dated lives at is_moment [] dated = refl
  dead-dated lives at is_moment (p ∷ ps) dated =
      ap (λ b. cond b (p ∷ dead_at at ps) (dead_at at ps)) (twice (is_dead at p) ∙ ap not (alive-dated lives at is_moment p dated.0))
      ∙ ap (λ l. cond (not (is_alive lives at p)) (p ∷ l) l) (dead-dated lives at is_moment ps dated.1)

  -- where none is hidden, the dead are the expired
  pub expired-shown : (at : ℕ) (rows : List (ℕ × Row K V)) → AreShown rows → expired_at at rows ≡ dead_at at rows
  expired-shown at [] shown = refl
  expired-shown at (p ∷ ps) shown =
      ap (λ h. cond (h || has_come p.1.info.deadline at) (p ∷ expired_at at ps) (expired_at at ps)) (sym shown.0)
      ∙ ap (λ l. cond (is_dead at p) (p ∷ l) l) (expired-shown at ps shown.1)

module _ {K V : Type 0} (at : ℕ) where
  -- whether a row is among the living or among the dead
  pub living-alive : (p : ℕ × Row K V) (ps : List (ℕ × Row K V)) → is_dead at p ≡ false → living_at at (p ∷ ps) ≡ p ∷ living_at at ps
  living-alive p ps alive = rw alive refl

  pub living-dead : (p : ℕ × Row K V) (ps : List (ℕ × Row K V)) → is_dead at p ≡ true → living_at at (p ∷ ps) ≡ living_at at ps
  living-dead p ps gone = rw gone refl

  pub dead-alive : (p : ℕ × Row K V) (ps : List (ℕ × Row K V)) → is_dead at p ≡ false → dead_at at (p ∷ ps) ≡ dead_at at ps
  dead-alive p ps alive = rw alive refl

  pub dead-dead : (p : ℕ × Row K V) (ps : List (ℕ × Row K V)) → is_dead at p ≡ true → dead_at at (p ∷ ps) ≡ p ∷ dead_at at ps
  dead-dead p ps gone = rw gone refl

  -- What the first dead row is, and what its leaving leaves.
  pub record IsFirstDead (rows : List (ℕ × Row K V)) (n : ℕ) : Type 0 where
    pub row : Row K V
    pub stands : row_under n rows ≡ Some row
    pub alive : living_at at (without_row n rows) ≡ living_at at rows
    pub first : dead_at at rows ≡ (n, row) ∷ dead_at at (without_row n rows)
    pub shorter : length rows ≡ suc (length (without_row n rows))
    pub gone : is_dead at (n, row) ≡ true
    pub parts : (kept waiting : List (ℕ × Row K V)) → admitted_parts at waiting kept rows
        ≡ record { evicted = (n, row) ∷ []; after = queues (kept ++ without_row n rows) waiting } ∷ admitted_parts at waiting kept (without_row n rows)

  pub first-dead : (rows : List (ℕ × Row K V)) (n : ℕ) → count_under n rows ≤ 1 → Some n ≡ first_number (dead_at at rows) → IsFirstDead rows n
  first-dead [] n once is = cc
  first-dead (p ∷ ps) n once is = by_life (is_dead at p) refl (λ less first. first-dead ps n less first)
    where
      same_number : p.0 ≡ n → is_dead at p ≡ true → (p.0 == n) ≡ true → IsFirstDead (p ∷ ps) n
      same_number same come eq = record {
        row = p.1;
        stands = rw eq refl;
        alive = rw eq (sym (living-dead p ps come));
        first = rw eq (dead-dead p ps come ∙ ap (λ m. (m, p.1) ∷ dead_at at ps) same);
        shorter = rw eq refl;
        gone = subst (λ m. is_dead at (m, p.1) ≡ true) same come;
        parts = λ kept waiting. rw eq (sweep-dead at waiting kept ps p come ∙ ap (λ m. record { evicted = (m, p.1) ∷ []; after = queues (kept ++ ps) waiting } ∷ admitted_parts at waiting kept ps) same);
      }

      later : is_dead at p ≡ false → IsFirstDead ps n → (b : Bool) → (p.0 == n) ≡ b → IsFirstDead (p ∷ ps) n
      later alive there true eq =
          let some = count_under-some n ps there.row there.stands in
          let twice : 1 + count_under n ps ≤ 1 = rw eq at once in
          absurd (omega arith)
      later alive there false eq = record {
        row = there.row;
        stands = rw eq there.stands;
        alive = rw eq (living-alive p (without_row n ps) alive ∙ ap (λ l. p ∷ l) there.alive ∙ sym (living-alive p ps alive));
        first = rw eq (dead-alive p ps alive ∙ there.first ∙ ap (λ l. (n, there.row) ∷ l) (sym (dead-alive p (without_row n ps) alive)));
        shorter = rw eq (ap suc there.shorter);
        gone = there.gone;
        parts = λ kept waiting. rw eq
            (sweep-alive at waiting kept ps p alive ∙ there.parts (kept ++ p ∷ []) waiting
            ∙ ap (λ l. record { evicted = (n, there.row) ∷ []; after = queues l waiting } ∷ admitted_parts at waiting (kept ++ p ∷ []) (without_row n ps)) (append_assoc kept (p ∷ []) (without_row n ps))
            ∙ ap (λ l. record { evicted = (n, there.row) ∷ []; after = queues (kept ++ p ∷ without_row n ps) waiting } ∷ l) (sym (sweep-alive at waiting kept (without_row n ps) p alive)));
      }

      by_life : (b : Bool) → is_dead at p ≡ b → (count_under n ps ≤ 1 → Some n ≡ first_number (dead_at at ps) → IsFirstDead ps n) → IsFirstDead (p ∷ ps) n
      by_life true come behind =
          let at_first : Some n ≡ Some p.0 = is ∙ ap first_number (dead-dead p ps come) in
          let same : p.0 ≡ n = cc in
          same_number same come (eq-eqb p.0 n same)
      by_life false alive behind =
          let less : count_under n ps ≤ 1 = fewer (p.0 == n) refl in
          later alive (behind less (is ∙ ap first_number (dead-alive p ps alive))) (p.0 == n) refl
        where
          fewer : (b : Bool) → (p.0 == n) ≡ b → count_under n ps ≤ 1
          fewer true eq = let h : 1 + count_under n ps ≤ 1 = rw eq at once in omega arith
          fewer false eq = let h : 0 + count_under n ps ≤ 1 = rw eq at once in omega arith

  -- if there is no first dead row, none is dead, and all live
  pub none-dead : (rows : List (ℕ × Row K V)) → None ≡ first_number (dead_at at rows) → (dead_at at rows ≡ []) × (living_at at rows ≡ rows)
  none-dead [] is = (refl, refl)
  none-dead (p ∷ ps) is = by_life (is_dead at p) refl (λ first. none-dead ps first)
    where
      by_life : (b : Bool) → is_dead at p ≡ b → (None ≡ first_number (dead_at at ps) → (dead_at at ps ≡ []) × (living_at at ps ≡ ps))
          → (dead_at at (p ∷ ps) ≡ []) × (living_at at (p ∷ ps) ≡ p ∷ ps)
      by_life true come behind = let no_first : None ≡ Some p.0 = is ∙ ap first_number (dead-dead p ps come) in cc
      by_life false alive behind =
          let rest = behind (is ∙ ap first_number (dead-alive p ps alive)) in
          (dead-alive p ps alive ∙ rest.0, living-alive p ps alive ∙ ap (λ l. p ∷ l) rest.1)

  -- so there is nothing to sweep
  pub none-swept : (rows : List (ℕ × Row K V)) → None ≡ first_number (dead_at at rows) → (kept waiting : List (ℕ × Row K V)) → admitted_parts at waiting kept rows ≡ []
  none-swept [] is kept waiting = refl
  none-swept (p ∷ ps) is kept waiting = by_life (is_dead at p) refl (λ first. none-swept ps first (kept ++ p ∷ []) waiting)
    where
      by_life : (b : Bool) → is_dead at p ≡ b → (None ≡ first_number (dead_at at ps) → admitted_parts at waiting (kept ++ p ∷ []) ps ≡ []) → admitted_parts at waiting kept (p ∷ ps) ≡ []
      by_life true come behind = let no_first : None ≡ Some p.0 = is ∙ ap first_number (dead-dead p ps come) in cc
      by_life false alive behind = sweep-alive at waiting kept ps p alive ∙ behind (is ∙ ap first_number (dead-alive p ps alive))

  -- where none is hidden, the first that is expired is the first dead one
  pub first-expired : (rows : List (ℕ × Row K V)) (n : ℕ) → AreShown rows → count_under n rows ≤ 1 → Some n ≡ first_number (expired_at at rows) → IsFirstDead rows n
  first-expired rows n shown once is = first-dead rows n once (is ∙ ap first_number (expired-shown at rows shown))
