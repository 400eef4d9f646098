-- The contents of a table, and what its calls change in them.
use Rattle.std.specs.Prelude.{Bool, true, false, ◌||◌, ◌≡◌, ℕ, ◌+◌, ◌<◌, ◌≤◌, ◌^◌, List, [], ◌∷◌, ◌++◌, length, map, IfSome, MatchOption}
use Rattle.std.specs.Arc.{arc_value}
use Rattle.std.specs.declared.sync.Arc.{Arc}
use Rattle.std.specs.declared.alloc.Global.{Global}
use Rattle.std.specs.List.{AllByRecursion}
use Rattle.moka_model.specs.declared.notification.Notice.{Notice}
use Rattle.moka_model.specs.declared.notification.RemovalCause.{RemovalCause}
use Rattle.moka_model.specs.Lives.{Write}
use Rattle.moka_model.specs.Removals.{Removal}
use Rattle.moka_model.specs.Maintenance.{total}
use Rattle.moka_rows.specs.declared.rows.Row.{Row}
use Rattle.moka_rows.specs.declared.rows.Order.{Order}
use Rattle.moka_rows.specs.declared.rows.Order.TheVariants.{Admitted, Waiting}
use Rattle.moka_table.specs.declared.table.Weights.{Weights}
use Rattle.moka_expiration.specs.ExpirationPolicy.{own_of}
use Rattle.moka_rows.specs.Rows.{with_row, without_row, row_under}

-- The contents of a table: the rows of both orders, the notices not taken, whether a row may be invalidated, and a
-- number of rows that there is room for, at least.
pub record Contents (K V : Type 0) : Type 0 where
  pub admitted : List (ℕ × Row K V)
  pub waiting : List (ℕ × Row K V)
  pub notices : List (Notice K V)
  pub may_hide : Bool
  pub room : ℕ

-- The total weight of the rows of an order.
abbrev pub weight_in : Order → Weights → ℕ
weight_in Admitted weights = weights.admitted
weight_in Waiting weights = weights.waiting

module _ {K V : Type 0} where
  -- All rows with their numbers, the resident ones first.
  abbrev pub entries : Contents K V → List (ℕ × Row K V)
  entries c = c.admitted ++ c.waiting

  -- The keys of some rows, in their order.
  abbrev pub keys_of : List (ℕ × Row K V) → List K
  keys_of rows = map (λ p. arc_value p.1.key) rows

  -- The write that a row stores.
  abbrev pub stored_write : Row K V → Write K V
  stored_write row =
      record {
        key = arc_value row.key;
        hash = row.hash;
        value = row.value;
        policy_weight = row.info.policy_weight;
        last_modified = row.info.last_modified;
        last_accessed = row.info.last_accessed;
        own_life = own_of row.info;
        is_hidden = row.info.is_hidden;
      }

  -- The weight of a row.
  abbrev pub weight_of : ℕ × Row K V → ℕ
  weight_of p = p.1.info.policy_weight

  -- The writes that rows store, in their order.
  abbrev pub stored_writes : List (ℕ × Row K V) → List (Write K V)
  stored_writes ps = map (λ p. stored_write p.1) ps

  -- The removal that a notice reports.
  abbrev pub removal_of : Notice K V → Removal K V
  removal_of notice = record { key = arc_value notice.key; value = notice.value; cause = notice.cause }

  -- None of these rows is invalidated.
  abbrev pub AreShown : List (ℕ × Row K V) → Type 0
  AreShown rows = AllByRecursion (λ p. p.1.info.is_hidden ≡ false) rows

  -- The row, invalidated if it was already or if a test holds of its key and value.
  abbrev pub hidden_if : (K → V → Bool) → Row K V → Row K V
  hidden_if test row =
      record row { info = record row.info { is_hidden = row.info.is_hidden || test (arc_value row.key) row.value } }

  -- The same rows, each invalidated if it was already or if a test holds of its key and value.
  abbrev pub hidden_where : (K → V → Bool) → List (ℕ × Row K V) → List (ℕ × Row K V)
  hidden_where test rows = map (λ p. (p.0, hidden_if test p.1)) rows

  -- The same rows, all invalidated.
  abbrev pub all_hidden : List (ℕ × Row K V) → List (ℕ × Row K V)
  all_hidden rows = hidden_where (λ k v. true) rows

  -- The rows in their orders and the notices are the same.
  abbrev pub SameRows : Contents K V → Contents K V → Type 0
  SameRows old new = (new.admitted ≡ old.admitted) × (new.waiting ≡ old.waiting) × (new.notices ≡ old.notices)

  -- The row with a number was accessed, and changed by that. A pending row keeps its place, and a resident one becomes
  -- the last.
  abbrev pub UsesRow : ℕ → (Row K V → Row K V) → Contents K V → Contents K V → Type 0
  UsesRow n change old new = MatchOption (row_under n old.admitted)
      ((new.admitted ≡ old.admitted) × (new.waiting ≡ with_row n change old.waiting))
      (λ row. (new.admitted ≡ without_row n old.admitted ++ (n, change row) ∷ []) × (new.waiting ≡ old.waiting))

  -- The row with a number was removed.
  abbrev pub TakesRow : ℕ → Contents K V → Contents K V → Type 0
  TakesRow n old new = MatchOption (row_under n old.admitted)
      ((new.admitted ≡ old.admitted) × (new.waiting ≡ without_row n old.waiting))
      (λ _. (new.admitted ≡ without_row n old.admitted) × (new.waiting ≡ old.waiting))

  -- A notice of the value of the row with a number was added, under this key of the row and with this cause.
  abbrev pub Notifies : ℕ → (Row K V → Arc K Global) → (Row K V → RemovalCause) → Contents K V → Contents K V → Type 0
  Notifies n key_of cause_of old new = IfSome (row_under n (entries old)) (λ row.
      new.notices ≡ old.notices ++ record { key = key_of row; value = row.value; cause = cause_of row } ∷ [])

  -- The first resident row was removed, and a notice with this cause was added.
  pub record EvictsOne (cause : RemovalCause) (first : ℕ × Row K V) (old new : Contents K V) : Type 0 where
    pub admitted : old.admitted ≡ first ∷ new.admitted
    pub waiting : new.waiting ≡ old.waiting
    pub notices : new.notices ≡ old.notices ++ record { key = first.1.key; value = first.1.value; cause = cause } ∷ []

  -- The invariant of a table. It has a place for a notice of each row, and each weight fits in 32 bits. The sums of the
  -- weights are right, and no row is invalidated if none may be.
  pub record IsConsistent (admitted waiting : List (ℕ × Row K V)) (weights : Weights) (may_hide : Bool) (notices places : ℕ) : Type 0 where
    pub few : length (admitted ++ waiting) + notices ≤ places
    pub light : AllByRecursion (λ p. weight_of p < 2 ^ 32) (admitted ++ waiting)
    pub admitted_weight : weights.admitted ≡ total weight_of admitted
    pub waiting_weight : weights.waiting ≡ total weight_of waiting
    pub shown : may_hide ≡ false → AreShown (admitted ++ waiting)
