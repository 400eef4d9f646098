-- What a loader and a compute do if there are several segments.
use Rattle.std.specs.Prelude.{◌≡◌, ℕ, Bool, Option, Some, None, List, ◌∷◌, Result, Ok, Err}
use Rattle.moka_policy.specs.declared.policy.Refused.{Refused}
use Rattle.moka_model.specs.declared.turns.Op.{Op}
use Rattle.moka_model.specs.declared.turns.Outcome.{Outcome}
use Rattle.moka_model.specs.declared.turns.Outcome.TheVariants as outcomes
use Rattle.moka_model.specs.Turns.{Name}
use Rattle.moka_model.specs.Calls.{Call, Entry, Reply, Finish, Abandon, Done, Run}
use Rattle.moka_state.specs.Forms.{IsEntered, end_call}
use Rattle.moka_segment_model.specs.Segments.{SegmentedSettings}
use Rattle.moka_segmented.specs.Turns.{FailsAtOnceIn, GivesIn}

module _ {K V E : Type 0} (eq : K → K → Bool) (is_clone : V → V → Type 0) (is_infallible : V → Type 0)
    (settings : SegmentedSettings K V) where
  -- A turn ends with an outcome: the segment of its key gives this reply to the finish. The segments could then have
  -- come from the calls with the finish or, if it failed, with an abandon in its place.
  abbrev pub EndsTurnIn : List (Call K V E) → Name K → Outcome V E → ℕ → Result (Reply K V E) Refused →
      (List (Call K V E) → Type 0) → Type 0
  EndsTurnIn calls name outcome now reply Stand =
      GivesIn eq is_clone is_infallible settings calls (Finish name outcome now) reply
      × Stand (end_call name outcome now reply ∷ calls)

  -- A loader is its begin and, if that opens a turn, the end of the turn with what the closure returned, in the key's
  -- segment. `given` is what the closure returned, none if it did not run. `Stand` says which calls the segments could
  -- have come from afterwards.
  abbrev pub IsFormIn : List (Call K V E) → Call K V E → ℕ → Option (Outcome V E) → Result (Reply K V E) Refused →
      (List (Call K V E) → Type 0) → Type 0
  IsFormIn calls begin now None (Ok reply) Stand =
      IsEntered reply × GivesIn eq is_clone is_infallible settings calls begin (Ok reply) × Stand (begin ∷ calls)
  IsFormIn calls begin now None (Err cause) Stand = FailsAtOnceIn eq is_clone is_infallible settings calls begin cause
  IsFormIn calls begin now (Some outcome) reply Stand =
      (name : Name K) × GivesIn eq is_clone is_infallible settings calls begin (Ok (Run name None))
      × EndsTurnIn (begin ∷ calls) name outcome now reply Stand

  -- The turn of a compute ends with the operation that the closure returned, or is abandoned if the closure failed.
  abbrev pub EndsComputeIn : List (Call K V E) → Name K → Option (Op V) → ℕ → Result (Reply K V E) Refused →
      (List (Call K V E) → Type 0) → Type 0
  EndsComputeIn calls name (Some op) now reply Stand = EndsTurnIn calls name (outcomes.Op op) now reply Stand
  EndsComputeIn calls name None now reply Stand = (reply ≡ Ok Done) × Stand (Abandon name ∷ calls)

  -- A compute with a closure is its begin and, if that opens a turn, the end of the turn with what the closure returned,
  -- in the key's segment. `shown` is the live entry that the closure got, and `given` what it returned, none if it did
  -- not run.
  abbrev pub IsComputeFormIn : List (Call K V E) → Call K V E → ℕ → Option (Entry K V) → Option (Option (Op V)) →
      Result (Reply K V E) Refused → (List (Call K V E) → Type 0) → Type 0
  IsComputeFormIn calls begin now shown None (Ok reply) Stand = ⊥
  IsComputeFormIn calls begin now shown None (Err cause) Stand =
      FailsAtOnceIn eq is_clone is_infallible settings calls begin cause
  IsComputeFormIn calls begin now shown (Some said) reply Stand =
      (name : Name K) × GivesIn eq is_clone is_infallible settings calls begin (Ok (Run name shown))
      × EndsComputeIn (begin ∷ calls) name said now reply Stand
