-- Runs that go on by one step.
use Rattle.std.proofs.Common.{◌≡◌, Bool, List, [], ◌∷◌, ◌++◌, suc, length, drop, refl, sym, ap, subst, arith}
use Rattle.moka_model.specs.Lives.{Settings}
use Rattle.moka_model.specs.Steps.{AcceptedStep}
use Rattle.moka_model.specs.StandsFor.{WholeView, StandsFor}
use Rattle.moka_state.specs.declared.step.Step.{Step}
use Rattle.moka_state.specs.declared.step.Reply.{Reply}
use Rattle.moka_state.specs.Step.{call_of, IsReplyTo, IsRun, after_reply, after_all}

module _ {K V C H W X P F L T E S : Type 0} (eq : K → K → Bool) (test : P → K → V → Bool) (is_clone : V → V → Type 0) (is_infallible : V → Type 0) (settings : Settings K V) where
  -- a reply to the step after a run makes a longer run
  pub IsRun-more : (before : List (AcceptedStep K V E)) (calls : List (Step K V C H W X P F L T E S)) (replies : List (Reply K V C H W X P F L T E S)) (step : Step K V C H W X P F L T E S) (reply : Reply K V C H W X P F L T E S)
      → IsRun eq test settings is_clone is_infallible before calls replies → IsReplyTo eq is_clone is_infallible settings (after_all eq test settings calls replies before) (call_of test step) reply → IsRun eq test settings is_clone is_infallible before (calls ++ step ∷ []) (replies ++ reply ∷ [])
  IsRun-more before [] [] step reply run is = (is, tt)
  IsRun-more before [] (r ∷ rs) step reply run is = absurd run
  IsRun-more before (s ∷ ss) [] step reply run is = absurd run
  IsRun-more before (s ∷ ss) (r ∷ rs) step reply run is = (run.0, IsRun-more (after_reply eq settings (call_of test s) r before) ss rs step reply run.1 is)

  -- and leaves what that step accepts too
  after_all-more : (before : List (AcceptedStep K V E)) (calls : List (Step K V C H W X P F L T E S)) (replies : List (Reply K V C H W X P F L T E S)) (step : Step K V C H W X P F L T E S) (reply : Reply K V C H W X P F L T E S)
      → IsRun eq test settings is_clone is_infallible before calls replies → after_all eq test settings (calls ++ step ∷ []) (replies ++ reply ∷ []) before ≡ after_reply eq settings (call_of test step) reply (after_all eq test settings calls replies before)
  after_all-more before [] [] step reply run = refl
  after_all-more before [] (r ∷ rs) step reply run = absurd run
  after_all-more before (s ∷ ss) [] step reply run = absurd run
  after_all-more before (s ∷ ss) (r ∷ rs) step reply run = after_all-more (after_reply eq settings (call_of test s) r before) ss rs step reply run.1

  -- so what a state stands for after that step it stands for after the longer run
  pub stands-more : (view : WholeView K V E) (before : List (AcceptedStep K V E)) (calls : List (Step K V C H W X P F L T E S)) (replies : List (Reply K V C H W X P F L T E S)) (step : Step K V C H W X P F L T E S) (reply : Reply K V C H W X P F L T E S)
      → IsRun eq test settings is_clone is_infallible before calls replies → StandsFor eq is_clone settings view (after_reply eq settings (call_of test step) reply (after_all eq test settings calls replies before)) → StandsFor eq is_clone settings view (after_all eq test settings (calls ++ step ∷ []) (replies ++ reply ∷ []) before)
  stands-more view before calls replies step reply run stands = subst (StandsFor eq is_clone settings view) (sym (after_all-more before calls replies step reply run)) stands

-- a list that is itself without its first element is empty
pub same_as_rest-empty : {A : Type 0} (xs : List A) → xs ≡ drop 1 xs → xs ≡ []
same_as_rest-empty [] e = refl
same_as_rest-empty (x ∷ xs) e = absurd (let longer : suc (length xs) ≡ length xs = ap length e in omega arith)
