-- What a maintenance does with the rows.
use Rattle.std.specs.Prelude.{◌≡◌, ℕ, ◌+◌, ◌-◌, Bool, true, not, ◌&&◌, ◌||◌, if◌then◌else◌, nat_le, Option, List, [], ◌∷◌, ◌++◌}
use Rattle.std.specs.Prelude.{filter, map, length, None}
use Rattle.std.specs.Prelude.{Some}
use Rattle.moka_model.specs.declared.notification.Notice.{Notice}
use Rattle.moka_model.specs.declared.notification.RemovalCause.{RemovalCause}
use Rattle.moka_model.specs.declared.notification.RemovalCause.TheVariants.{Expired, Explicit, Size}
use Rattle.moka_model.specs.Lives.{has_come}
use Rattle.moka_model.specs.Maintenance.{Queues, Part, total, judge, judged, parts, done, is_left, evicted_in, after_parts}
use Rattle.moka_expiration.specs.declared.expiration_policy.ExpirationPolicy.{ExpirationPolicy}
use Rattle.moka_rows.specs.declared.rows.Row.{Row}
use Rattle.moka_expiration.specs.ExpirationPolicy.{deadline_of}
use Rattle.moka_table.specs.Table.{Contents, weight_of}

-- Whether a weight is within the capacity, if there is one.
abbrev pub is_within : Option ℕ → ℕ → Bool
is_within None weight = true
is_within (Some capacity) weight = nat_le weight capacity

-- Whether a limit, if there is one, allows this many removals.
abbrev pub lets_leave : Option ℕ → ℕ → Bool
lets_leave None count = true
lets_leave (Some limit) count = nat_le count limit

-- What is left of a limit after this many removals.
abbrev pub limit_less : Option ℕ → ℕ → Option ℕ
limit_less None count = None
limit_less (Some limit) count = Some (limit - count)

module _ {K V : Type 0} where
  -- Whether a row is neither invalidated nor expired at a moment.
  abbrev pub is_alive : ExpirationPolicy → ℕ → ℕ × Row K V → Bool
  is_alive lives at p = not p.1.info.is_hidden && not (has_come (deadline_of lives p.1.info) at)

  -- The rows that are alive at a moment, in their order.
  abbrev pub living : ExpirationPolicy → ℕ → List (ℕ × Row K V) → List (ℕ × Row K V)
  living lives at rows = filter (is_alive lives at) rows

  -- The rows that are not alive at a moment, in their order.
  abbrev pub dead : ExpirationPolicy → ℕ → List (ℕ × Row K V) → List (ℕ × Row K V)
  dead lives at rows = filter (λ p. not (is_alive lives at p)) rows

  -- The notice of a row's removal, with this cause.
  abbrev pub notice_for : RemovalCause → ℕ × Row K V → Notice K V
  notice_for cause p = record { key = p.1.key; value = p.1.value; cause = cause }

  -- The notices of some rows' removals, in their order.
  abbrev pub notices_for : RemovalCause → List (ℕ × Row K V) → List (Notice K V)
  notices_for cause rows = map (notice_for cause) rows

  -- The notice of the removal of a dead row: its cause is `Explicit` if the row is invalidated, and else `Expired`.
  abbrev pub notice_dead : ℕ × Row K V → Notice K V
  notice_dead p = notice_for (if p.1.info.is_hidden then Explicit else Expired) p

  -- The notices of the removals of dead rows, in their order.
  abbrev pub notices_dead : List (ℕ × Row K V) → List (Notice K V)
  notices_dead rows = map notice_dead rows

  -- The notice of a row that a maintenance removes. Its cause is `Explicit` if the row is invalidated, `Expired` if its
  -- deadline has come, and else `Size`.
  abbrev pub notice_at : ExpirationPolicy → ℕ → ℕ × Row K V → Notice K V
  notice_at lives at p =
      notice_for (if p.1.info.is_hidden then Explicit else (if has_come (deadline_of lives p.1.info) at then Expired else Size)) p

  -- The rows of a table in their two orders.
  abbrev pub rows_of : Contents K V → Queues (ℕ × Row K V)
  rows_of c = record { admitted = c.admitted; waiting = c.waiting }

  -- The sum of the estimates for the hashes of some rows.
  abbrev pub frequencies : (ℕ → ℕ) → List (ℕ × Row K V) → ℕ
  frequencies frequency_of rows = total (λ p. frequency_of p.1.hash) rows

  -- Whether a pending row with this hash wins against its victims: always under LRU, and else if its estimate is
  -- greater than the sum of theirs.
  abbrev pub hash_wins : Bool → (ℕ → ℕ) → ℕ → List (ℕ × Row K V) → Bool
  hash_wins is_lru frequency_of hash victims = is_lru || nat_le (frequencies frequency_of victims + 1) (frequency_of hash)

  -- Whether a pending row wins against its victims.
  abbrev pub row_wins : Bool → (ℕ → ℕ) → ℕ × Row K V → List (ℕ × Row K V) → Bool
  row_wins is_lru frequency_of p victims = hash_wins is_lru frequency_of p.1.hash victims

  -- The parts in which the pending rows are judged, in order.
  abbrev pub judgements : Bool → (ℕ → ℕ) → Option ℕ → Contents K V → List (Part (ℕ × Row K V))
  judgements is_lru frequency_of capacity c = judged weight_of capacity (row_wins is_lru frequency_of) c.admitted c.waiting

  -- The part in which the first pending row is dropped.
  abbrev pub drops : List (ℕ × Row K V) → ℕ × Row K V → List (ℕ × Row K V) → Part (ℕ × Row K V)
  drops admitted first rest = record { evicted = first ∷ []; after = record { admitted = admitted; waiting = rest } }

  -- What a phase of a maintenance does within a limit. It does the longest front of its parts that the limit allows. It
  -- adds a notice of each row that is removed, in order, and takes their number from the limit. It is cut if it leaves
  -- a part undone.
  pub record DoesParts (notice : ℕ × Row K V → Notice K V) (limit : Option ℕ) (ps : List (Part (ℕ × Row K V)))
      (old new : Contents K V) (rest : Option ℕ) (is_cut : Bool) : Type 0 where
    pub orders : rows_of new ≡ after_parts (rows_of old) (done limit ps)
    pub notices : new.notices ≡ old.notices ++ map notice (evicted_in (done limit ps))
    pub rest_is : rest ≡ limit_less limit (length (evicted_in (done limit ps)))
    pub left : is_cut ≡ is_left limit ps

  -- The first pending row is judged, within a limit.
  pub record JudgesFirst (is_lru : Bool) (frequency_of : ℕ → ℕ) (capacity limit : Option ℕ) (first : ℕ × Row K V)
      (rest : List (ℕ × Row K V)) (old new : Contents K V) (limit_after : Option ℕ) (is_cut : Bool) : Type 0 where
    pub waited : old.waiting ≡ first ∷ rest
    pub does : DoesParts (notice_for Size) limit (judge weight_of capacity (row_wins is_lru frequency_of) old.admitted first rest ∷ [])
        old new limit_after is_cut

  -- The parts of a maintenance of a table.
  abbrev pub row_parts : ExpirationPolicy → Bool → (ℕ → ℕ) → Option ℕ → ℕ → Contents K V → List (Part (ℕ × Row K V))
  row_parts lives is_lru frequency_of capacity at c =
      parts weight_of capacity (is_alive lives at) (row_wins is_lru frequency_of) (rows_of c)

-- What a whole maintenance at a moment does: all its parts, with a notice of each row that is removed, in order.
pub record IsMaintained {K V : Type 0} (lives : ExpirationPolicy) (is_lru : Bool) (frequency_of : ℕ → ℕ) (capacity : Option ℕ) (at : ℕ)
    (old new : Contents K V) : Type 0 where
  pub waiting : new.waiting ≡ []
  pub admitted : new.admitted ≡ (after_parts (rows_of old) (row_parts lives is_lru frequency_of capacity at old)).admitted
  pub notices : new.notices ≡ old.notices ++ map (notice_at lives at) (evicted_in (row_parts lives is_lru frequency_of capacity at old))

-- What a maintenance at a moment does within a limit: the longest front of its parts that the limit allows, with a
-- notice of each row that is removed, in order. It is cut if a part is left undone.
pub record IsMaintainedUpTo {K V : Type 0} (lives : ExpirationPolicy) (is_lru : Bool) (frequency_of : ℕ → ℕ) (capacity : Option ℕ) (at : ℕ)
    (limit : Option ℕ) (old new : Contents K V) (is_cut : Bool) : Type 0 where
  pub orders : rows_of new ≡ after_parts (rows_of old) (done limit (row_parts lives is_lru frequency_of capacity at old))
  pub notices : new.notices
      ≡ old.notices ++ map (notice_at lives at) (evicted_in (done limit (row_parts lives is_lru frequency_of capacity at old)))
  pub left : is_cut ≡ is_left limit (row_parts lives is_lru frequency_of capacity at old)
