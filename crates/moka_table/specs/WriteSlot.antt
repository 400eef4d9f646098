-- The slots of writes, and what a write does there.
use Rattle.std.specs.Prelude.{⊤, ◌≡◌, ◌<◌, ◌≤◌, ℕ, Bool, false, not, ◌||◌, if◌then◌else◌, Option, IsSome, IfSome, Some, None, List, []}
use Rattle.std.specs.Prelude.{◌∷◌, ◌++◌, length}
use Rattle.std.specs.Arc.{arc_value}
use Rattle.std.specs.declared.sync.Arc.{Arc}
use Rattle.std.specs.declared.alloc.Global.{Global}
use Rattle.moka_model.specs.declared.notification.RemovalCause.TheVariants.{Replaced}
use Rattle.moka_model.specs.Lives.{Behaviour, OwnLife, has_come, rest, given}
use Rattle.moka_rows.specs.declared.rows.EntryInfo.{EntryInfo}
use Rattle.moka_rows.specs.declared.rows.Row.{Row}
use Rattle.moka_table.specs.declared.table.Lookup.{Lookup}
use Rattle.moka_table.specs.declared.table.Lookup.TheVariants.{Stored, Absent}
use Rattle.moka_table.specs.declared.write_slot.WriteSlot.{WriteSlot}
use Rattle.moka_table.specs.declared.write_slot.WriteSlot.TheVariants.{Occupied, Vacant}
use Rattle.moka_table.specs.declared.write_slot.WritePlan.{WritePlan}
use Rattle.moka_table.specs.declared.write_slot.WritePlan.TheVariants.{Now, AfterFlush}
use Rattle.moka_table.specs.declared.write_slot.NewValue.{NewValue}
use Rattle.moka_expiration.specs.declared.expiration_policy.ExpirationPolicy.{ExpirationPolicy}
use Rattle.moka_rows.specs.Rows.{row_under, overwritten, cause_at, IsRowOf, NoneIsRowOf}
use Rattle.moka_expiration.specs.Behaviour.{BehaviourData}
use Rattle.moka_expiration.specs.ExpirationPolicy.{own_of, IsDated}
use Rattle.moka_expiration.specs.Plain.{IsPlain}
use Rattle.moka_table.specs.Lookup.{IsLookupOf}
use Rattle.moka_table.specs.Table.{Contents, entries, UsesRow}

-- The slot of a write of a key, given the result of its lookup.
abbrev pub IsSlotFor : {K : Type 0} → K → Lookup K → WriteSlot K → Type 0
IsSlotFor key (Stored number stored) (Occupied m k) = (m ≡ number) × (k ≡ stored)
IsSlotFor key (Stored number stored) (Vacant k) = ⊥
IsSlotFor key Absent (Occupied m k) = ⊥
IsSlotFor key Absent (Vacant k) = arc_value k ≡ key

-- The slot is over a row.
abbrev pub IsOver : {K : Type 0} → WriteSlot K → Type 0
IsOver (Occupied number key) = ⊤
IsOver (Vacant key) = ⊥

module _ {K V : Type 0} where
  -- That slot after some rows were removed, among the rows that are left.
  abbrev pub IsSlotNow : (K → K → Bool) → ℕ → Lookup K → Arc K Global → List (ℕ × Row K V) → WriteSlot K → Type 0
  IsSlotNow eq hash (Stored number stored) key rows (Occupied m k) =
      (k ≡ stored) × (row : Row K V) × (row_under m rows ≡ Some row) × IsRowOf eq (arc_value key) hash row
  IsSlotNow eq hash (Stored number stored) key rows (Vacant k) = (k ≡ key) × NoneIsRowOf eq (arc_value key) hash rows
  IsSlotNow eq hash Absent key rows (Occupied m k) = ⊥
  IsSlotNow eq hash Absent key rows (Vacant k) = k ≡ key

  -- The row of a slot is stored.
  abbrev pub HasSlot : WriteSlot K → Contents K V → Type 0
  HasSlot (Occupied number key) c = IsSome (row_under number (entries c))
  HasSlot (Vacant key) c = ⊤

  -- The slot is over a value whose life nothing limits.
  abbrev pub IsOverPlain : {H W X : Type 0} → BehaviourData H W X → ExpirationPolicy → WriteSlot K → Contents K V → Type 0
  IsOverPlain behaviour lives (Occupied number key) c = IfSome (row_under number (entries c)) (λ row. IsPlain behaviour lives row.info)
  IsOverPlain behaviour lives (Vacant key) c = ⊥

  -- The own lifetime of a value at a slot: that of an update over a live value, and else that of a creation.
  abbrev pub IsOwnIn : Behaviour K V → WriteSlot K → V → ℕ → Contents K V → Option OwnLife → Type 0
  IsOwnIn behaviour (Occupied number key) value at c own = IfSome (row_under number (entries c)) (λ row.
      own ≡ given
      (if not (row.info.is_hidden || has_come row.info.deadline at)
      then behaviour.lifetimes.updated (arc_value key) value at (rest (own_of row.info) at)
      else behaviour.lifetimes.created (arc_value key) value at) at)
  IsOwnIn behaviour (Vacant key) value at c own = own ≡ given (behaviour.lifetimes.created (arc_value key) value at) at

  -- The metadata of a value that is written to a slot at a moment, except its deadline.
  pub record IsInfoOf (behaviour : Behaviour K V) (slot : WriteSlot K) (value : V) (weight at : ℕ) (c : Contents K V)
      (info : EntryInfo) : Type 0 where
    pub modified : info.last_modified ≡ at
    pub accessed : info.last_accessed ≡ at
    pub weight_is : info.policy_weight ≡ weight
    pub shown : info.is_hidden ≡ false
    pub own : IsOwnIn behaviour slot value at c (own_of info)

  -- A value is written to a slot. Over a row's value this is an access, and adds a notice of the old value under the
  -- stored key. A new row becomes the last pending one.
  abbrev pub Puts : WriteSlot K → ℕ → V → EntryInfo → Contents K V → Contents K V → Type 0
  Puts (Occupied number key) hash value info old new = IfSome (row_under number (entries old)) (λ row.
      UsesRow number (overwritten value info) old new
      × (new.notices ≡ old.notices ++ record {
        key = key;
        value = row.value;
        cause = cause_at Replaced row.info info.last_modified;
      } ∷ []))
  Puts (Vacant key) hash value info old new =
      (number : ℕ) × (new.admitted ≡ old.admitted)
      × (new.waiting ≡ old.waiting ++ (number, record { key = key; hash = hash; value = value; info = info }) ∷ [])
      × (new.notices ≡ old.notices)

  -- The plan of a write of a key in a table: a flush comes first if 64 or more rows are pending.
  abbrev pub IsPlanOf : (K → K → Bool) → K → ℕ → Contents K V → WritePlan K → Type 0
  IsPlanOf eq key hash c (Now slot) =
      (length c.waiting < 64) × (lookup : Lookup K) × IsLookupOf eq key hash (entries c) lookup × IsSlotFor key lookup slot
  IsPlanOf eq key hash c (AfterFlush lookup own) =
      (64 ≤ length c.waiting) × IsLookupOf eq key hash (entries c) lookup × (arc_value own ≡ key)

  -- Whether a row's value is live at a moment.
  abbrev pub is_live_row : ℕ → Option (Row K V) → Bool
  is_live_row at None = false
  is_live_row at (Some row) = not (row.info.is_hidden || has_come row.info.deadline at)

  -- Whether a slot is over a value that is live at a moment.
  abbrev pub is_over_live : WriteSlot K → ℕ → Contents K V → Bool
  is_over_live (Occupied number key) at c = is_live_row at (row_under number (entries c))
  is_over_live (Vacant key) at c = false

  -- A value is written to a slot with its metadata; `replaced` is whether a live value was there.
  abbrev pub Writes : Behaviour K V → ExpirationPolicy → WriteSlot K → NewValue V → Contents K V → Contents K V → Bool → Type 0
  Writes behaviour lives slot it old new replaced =
      (info : EntryInfo) × IsInfoOf behaviour slot it.value it.weight it.now old info × IsDated lives info
      × Puts slot it.hash it.value info old new × (replaced ≡ is_over_live slot it.now old)
