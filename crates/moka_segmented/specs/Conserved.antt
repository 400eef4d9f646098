-- That a run over several segments loses and doubles nothing.
use Rattle.std.specs.Prelude.{ℕ, Bool, if◌then◌else◌, List, [], ◌∷◌, ◌++◌, IfSome, slice_get}
use Rattle.moka_model.specs.Removals.{Removal}
use Rattle.moka_model.specs.Calls.{Call}
use Rattle.moka_model.specs.Conserved.{given_out, IsConserved}
use Rattle.moka_expiration.specs.StateData.{StateData}
use Rattle.moka_state.specs.declared.step.Step.{Step}
use Rattle.moka_state.specs.declared.step.Reply.{Reply}
use Rattle.moka_state.specs.Step.{call_of}
use Rattle.moka_state.specs.Noticed.{noticed_in}
use Rattle.moka_segment_model.specs.Segments.{SegmentedSettings, share_settings, events_of, place_of, goes_to}
use Rattle.moka_segmented.specs.Step.{after_reply_in, after_all_in}

module _ {K V C H W X P F L T E S : Type 0} (eq : K → K → Bool) (test : P → K → V → Bool) (settings : SegmentedSettings K V) where
  -- The removals in the notices that a segment gave out in a run after these calls, in order: those of the replies to the
  -- steps that went to it.
  abbrev pub noticed_at : ℕ → List (Call K V E) → List (Step K V C H W X P F L T E S) → List (Reply K V C H W X P F L T E S) →
      List (Removal K V)
  noticed_at i calls [] replies = []
  noticed_at i calls (step ∷ rest) [] = []
  noticed_at i calls (step ∷ rest) (reply ∷ replies) =
      (if goes_to i (place_of E eq settings calls (call_of test step)) then noticed_in (reply ∷ []) else [])
      ++ noticed_at i (after_reply_in (call_of test step) reply calls) rest replies

  -- A run after these calls loses and doubles nothing in any segment. What a segment gave out, it gave out before the run
  -- or in the replies to the steps that went to it.
  abbrev pub IsConservedIn : List (Call K V E) → List (Step K V C H W X P F L T E S) → List (Reply K V C H W X P F L T E S) →
      List (StateData K V H W X F E) → Type 0
  IsConservedIn before steps replies states = (i : ℕ) → IfSome (slice_get states i) (λ state.
      IsConserved eq (share_settings settings) (events_of E eq settings (after_all_in test steps replies before) i) state.books
      (given_out eq (share_settings settings) (events_of E eq settings before i) ++ noticed_at i before steps replies))
