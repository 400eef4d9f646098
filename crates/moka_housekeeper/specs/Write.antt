-- What a write does that may run a flush first.
use Rattle.std.specs.Prelude.{⊤, ◌≡◌, ℕ, Bool, Option}
use Rattle.moka_model.specs.Lives.{Behaviour}
use Rattle.moka_expiration.specs.declared.expiration_policy.ExpirationPolicy.{ExpirationPolicy}
use Rattle.moka_table.specs.declared.write_slot.WriteSlot.{WriteSlot}
use Rattle.moka_table.specs.declared.write_slot.WritePlan.{WritePlan}
use Rattle.moka_table.specs.declared.write_slot.WritePlan.TheVariants.{Now, AfterFlush}
use Rattle.moka_table.specs.declared.write_slot.NewValue.{NewValue}
use Rattle.moka_table.specs.WriteSlot.{HasSlot, IsSlotNow, Writes}
use Rattle.moka_table.specs.Table.{Contents, entries}
use Rattle.moka_housekeeper.specs.Maintain.{IsMaintainedUpTo}

module _ {K V : Type 0} where
  -- The row of a plan is stored, unless a flush comes first.
  abbrev pub HasPlan : WritePlan K → Contents K V → Type 0
  HasPlan (Now slot) c = HasSlot slot c
  HasPlan (AfterFlush lookup key) c = ⊤

  -- The slot of a write by its plan: that of the plan in the same table, or where the key belongs after a flush.
  abbrev pub IsSlotOf : (K → K → Bool) → ExpirationPolicy → Bool → (ℕ → ℕ) → Option ℕ → Option ℕ → WritePlan K → ℕ → ℕ →
      Contents K V → Contents K V → WriteSlot K → Type 0
  IsSlotOf eq lives is_lru frequency_of capacity limit (Now slot) hash at old new it = (it ≡ slot) × (new ≡ old)
  IsSlotOf eq lives is_lru frequency_of capacity limit (AfterFlush lookup own) hash at old new it =
      (is_cut : Bool) × IsMaintainedUpTo lives is_lru frequency_of capacity at limit old new is_cut
      × IsSlotNow eq hash lookup own (entries new) it

  -- A value is written by its plan, after a flush if one comes first.
  abbrev pub WritesAt : (K → K → Bool) → Behaviour K V → ExpirationPolicy → (ℕ → ℕ) → Option ℕ → Option ℕ → WritePlan K →
      NewValue V → Contents K V → Contents K V → Bool → Type 0
  WritesAt eq behaviour lives frequency_of capacity limit (Now slot) it old new replaced =
      Writes behaviour lives slot it old new replaced
  WritesAt eq behaviour lives frequency_of capacity limit (AfterFlush lookup own) it old new replaced =
      (left : Contents K V) × (is_cut : Bool)
      × IsMaintainedUpTo lives behaviour.is_lru frequency_of capacity it.now limit old left is_cut
      × (slot : WriteSlot K) × IsSlotNow eq it.hash lookup own (entries left) slot
      × Writes behaviour lives slot it left new replaced
