-- A write by its plan is a write to the slot that the plan leads to.
use Rattle.std.proofs.Common.{◌≡◌, ℕ, Bool, Option, refl}
use Rattle.moka_model.specs.Lives.{Behaviour}
use Rattle.moka_expiration.specs.declared.expiration_policy.ExpirationPolicy.{ExpirationPolicy}
use Rattle.moka_table.specs.declared.write_slot.WriteSlot.{WriteSlot}
use Rattle.moka_table.specs.declared.write_slot.WritePlan.{WritePlan}
use Rattle.moka_table.specs.declared.write_slot.WritePlan.TheVariants.{Now, AfterFlush}
use Rattle.moka_table.specs.declared.write_slot.NewValue.{NewValue}
use Rattle.moka_table.specs.WriteSlot.{Writes}
use Rattle.moka_table.specs.Table.{Contents}
use Rattle.moka_housekeeper.specs.Write.{IsSlotOf, WritesAt}

module _ {K V : Type 0} (eq : K → K → Bool) (behaviour : Behaviour K V) (lives : ExpirationPolicy) (frequency_of : ℕ → ℕ) (capacity limit : Option ℕ) where
  pub writes-by : (plan : WritePlan K) (it : NewValue V) (old left new : Contents K V) (slot : WriteSlot K) (replaced : Bool)
      → IsSlotOf eq lives behaviour.is_lru frequency_of capacity limit plan it.hash it.now old left slot
      → Writes behaviour lives slot it left new replaced
      → WritesAt eq behaviour lives frequency_of capacity limit plan it old new replaced
  writes-by (Now own) it old left new slot replaced same writes = rw (same.0, same.1) at writes
  writes-by (AfterFlush lookup own) it old left new slot replaced flushed writes = (left, flushed.0, flushed.1, slot, flushed.2, writes)
