-- Runs with one more step.
use Rattle.std.proofs.Common.{◌≡◌, Bool, List, [], ◌∷◌, ◌++◌, suc, length, drop, refl, sym, ap, subst, arith}
use Rattle.moka_model.specs.Calls.{Call}
use Rattle.moka_state.specs.declared.step.Step.{Step}
use Rattle.moka_state.specs.declared.step.Reply.{Reply}
use Rattle.moka_state.specs.Step.{call_of}
use Rattle.moka_segment_model.specs.Segments.{SegmentedSettings, SegmentedView, AllStandFor}
use Rattle.moka_segmented.specs.Step.{IsReplyIn, IsRunIn, after_reply_in, after_all_in}

module _ {K V C H W X P F L T E S : Type 0} (eq : K → K → Bool) (test : P → K → V → Bool) (is_clone : V → V → Type 0) (is_infallible : V → Type 0) (given : SegmentedSettings K V) where
  -- a reply to the step after a run makes a longer run
  pub IsRunIn-more : (before : List (Call K V E)) (steps : List (Step K V C H W X P F L T E S)) (replies : List (Reply K V C H W X P F L T E S)) (step : Step K V C H W X P F L T E S) (reply : Reply K V C H W X P F L T E S)
      → IsRunIn test eq is_clone is_infallible given before steps replies → IsReplyIn E eq is_clone is_infallible given (after_all_in test steps replies before) (call_of test step) reply → IsRunIn test eq is_clone is_infallible given before (steps ++ step ∷ []) (replies ++ reply ∷ [])
  IsRunIn-more before [] [] step reply run is = (is, tt)
  IsRunIn-more before [] (r ∷ rs) step reply run is = absurd run
  IsRunIn-more before (s ∷ ss) [] step reply run is = absurd run
  IsRunIn-more before (s ∷ ss) (r ∷ rs) step reply run is = (run.0, IsRunIn-more (after_reply_in (call_of test s) r before) ss rs step reply run.1 is)

  -- and its calls are those with that step, if it was accepted
  after_all_in-more : (before : List (Call K V E)) (steps : List (Step K V C H W X P F L T E S)) (replies : List (Reply K V C H W X P F L T E S)) (step : Step K V C H W X P F L T E S) (reply : Reply K V C H W X P F L T E S)
      → IsRunIn test eq is_clone is_infallible given before steps replies → after_all_in test (steps ++ step ∷ []) (replies ++ reply ∷ []) before ≡ after_reply_in (call_of test step) reply (after_all_in test steps replies before)
  after_all_in-more before [] [] step reply run = refl
  after_all_in-more before [] (r ∷ rs) step reply run = absurd run
  after_all_in-more before (s ∷ ss) [] step reply run = absurd run
  after_all_in-more before (s ∷ ss) (r ∷ rs) step reply run = after_all_in-more (after_reply_in (call_of test s) r before) ss rs step reply run.1

  -- so the calls after that step are those after the longer run
  pub all-stand-more : (view : SegmentedView K V E) (before : List (Call K V E)) (steps : List (Step K V C H W X P F L T E S)) (replies : List (Reply K V C H W X P F L T E S)) (step : Step K V C H W X P F L T E S) (reply : Reply K V C H W X P F L T E S)
      → IsRunIn test eq is_clone is_infallible given before steps replies → AllStandFor eq is_clone given view (after_reply_in (call_of test step) reply (after_all_in test steps replies before)) → AllStandFor eq is_clone given view (after_all_in test (steps ++ step ∷ []) (replies ++ reply ∷ []) before)
  all-stand-more view before steps replies step reply run stand = subst (AllStandFor eq is_clone given view) (sym (after_all_in-more before steps replies step reply run)) stand

-- a list that is itself without its first element is empty
pub same_as_rest-empty : {A : Type 0} (xs : List A) → xs ≡ drop 1 xs → xs ≡ []
same_as_rest-empty [] e = refl
same_as_rest-empty (x ∷ xs) e = absurd (let longer : suc (length xs) ≡ length xs = ap length e in omega arith)
