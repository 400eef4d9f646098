-- A write over a value whose life nothing limits.
use Rattle.std.proofs.Common.{◌≡◌, ℕ, Bool, true, false, not, ◌||◌, cond, Option, None, option_map, refl, sym, ap, ◌∙◌}
use Rattle.std.specs.Arc.{arc_value}
use Rattle.moka_model.specs.Lives.{Behaviour, no_lifetimes, has_come, rest, given}
use Rattle.moka_rows.specs.Rows.{row_under, written}
use Rattle.moka_expiration.specs.declared.expiration_policy.ExpirationPolicy.{ExpirationPolicy}
use Rattle.moka_expiration.specs.Behaviour.{BehaviourData}
use Rattle.moka_expiration.specs.ExpirationPolicy.{own_life, own_of, IsDated}
use Rattle.moka_table.specs.declared.write_slot.WriteSlot.{WriteSlot}
use Rattle.moka_table.specs.declared.write_slot.WriteSlot.TheVariants.{Occupied, Vacant}
use Rattle.moka_table.specs.Table.{Contents, entries}
use Rattle.moka_table.specs.WriteSlot.{HasSlot, IsOver, IsOverPlain, IsInfoOf}
use Rattle.moka_table.proofs.Finds.{found-row}

-- what is given is nothing if neither is anything
either-none : (at : ℕ) (b : Bool) (a a' : Option ℕ) → a ≡ None → a' ≡ None → None ≡ given (cond b a a') at
either-none at true a a' is is' = ap (λ o. given o at) (sym is)
either-none at false a a' is is' = ap (λ o. given o at) (sym is')

module _ {K V H W X : Type 0} (stored : BehaviourData H W X) (lives : ExpirationPolicy) where
  pub over-plain : (slot : WriteSlot K) (c : Contents K V) → IsOverPlain stored lives slot c → IsOver slot
  over-plain (Occupied number key) c plain = tt
  over-plain (Vacant key) c plain = plain

  pub plain-dated : (weight at : ℕ) (slot : WriteSlot K) (c : Contents K V) → HasSlot slot c → IsOverPlain stored lives slot c → IsDated lives (written weight at)
  plain-dated weight at (Vacant key) c there plain = absurd plain
  plain-dated weight at (Occupied number key) c there plain =
      let row = found-row _ _ there plain in
      rw (row.2.no_time_to_live, row.2.no_time_to_idle) refl

  pub plain-info : (behaviour : Behaviour K V) → (stored.expiry ≡ None → behaviour.lifetimes ≡ no_lifetimes) → (value : V) (weight at : ℕ) (slot : WriteSlot K) (c : Contents K V)
      → HasSlot slot c → IsOverPlain stored lives slot c → IsInfoOf behaviour slot value weight at c (written weight at)
  plain-info behaviour without value weight at (Vacant key) c there plain = absurd plain
  plain-info behaviour without value weight at (Occupied number key) c there plain =
      let row = found-row _ _ there plain in
      let none = without row.2.no_expiry in
      record {
        modified = refl;
        accessed = refl;
        weight_is = refl;
        shown = refl;
        own = rw row.1 (either-none at (not (row.0.info.is_hidden || has_come row.0.info.deadline at)) _ _
            (ap (λ l. l.updated (arc_value key) value at (rest (own_of row.0.info) at)) none ∙ ap (λ own. rest (option_map own_life own) at) row.2.no_own_life)
            (ap (λ l. l.created (arc_value key) value at) none));
      }
