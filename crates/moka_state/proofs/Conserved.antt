-- A run loses and doubles nothing: it gives out the notices of its replies.
use Rattle.std.proofs.Common.{◌≡◌, Bool, Some, None, List, [], ◌∷◌, ◌++◌, refl, sym, ap, ◌∙◌, subst, append-nil, append_assoc}
use Rattle.std.specs.Cmp.{IsEquivalence}
use Rattle.std.specs.Prelude.{option_map}
use Rattle.std.specs.Arc.{arc_value}
use Rattle.moka_model.specs.Entries.{entry_of}
use Rattle.moka_model.specs.declared.comp_result.CompResult.TheVariants as results
use Rattle.moka_model.specs.Lives.{Settings}
use Rattle.moka_turns.specs.Handles.{name_by}
use Rattle.moka_model.specs.Removals.{Removal}
use Rattle.moka_model.specs.Steps.{AcceptedStep, events_in}
use Rattle.moka_model.specs.Calls as calls
use Rattle.moka_model.specs.Calls.{Call}
use Rattle.moka_model.specs.StandsFor.{WholeView, StandsFor, books_of}
use Rattle.moka_model.specs.Conserved.{given_out, IsConserved}
use Rattle.moka_model.proofs.Callers.{is_conserved, given-by_reply}
use Rattle.moka_table.specs.Table.{removal_of}
use Rattle.moka_state.specs.declared.step.Step.{Step}
use Rattle.moka_state.specs.declared.step.Reply.{Reply}
use Rattle.moka_state.specs.declared.step.Reply.TheVariants.{Found, Contains, Done, Counted, Left, Noticed, Refused, PredicateRefused}
use Rattle.moka_state.specs.declared.step.Reply.TheVariants.{Entered, Run, Wait, Nothing, Failed, Computed, NotYet, Abandoned, Ended}
use Rattle.moka_state.specs.Step.{call_of, IsReplyTo, IsRun, after_reply, after_all}
use Rattle.moka_state.specs.Noticed.{noticed_in}

-- the notices of a reply, and then those of others
noticed_in-cons : {K V C H W X P F L T E S : Type 0} (reply : Reply K V C H W X P F L T E S) (replies : List (Reply K V C H W X P F L T E S)) → noticed_in (reply ∷ []) ++ noticed_in replies ≡ noticed_in (reply ∷ replies)
noticed_in-cons (Found v) replies = refl
noticed_in-cons (Contains b) replies = refl
noticed_in-cons Done replies = refl
noticed_in-cons (Counted n) replies = refl
noticed_in-cons (Left b) replies = refl
noticed_in-cons (Noticed None) replies = refl
noticed_in-cons (Noticed (Some n)) replies = refl
noticed_in-cons (Entered entry) replies = refl
noticed_in-cons (Run name entry) replies = refl
noticed_in-cons (Wait name) replies = refl
noticed_in-cons Nothing replies = refl
noticed_in-cons (Failed error) replies = refl
noticed_in-cons (Computed result) replies = refl
noticed_in-cons NotYet replies = refl
noticed_in-cons Abandoned replies = refl
noticed_in-cons Ended replies = refl
noticed_in-cons (Refused cause) replies = refl
noticed_in-cons (PredicateRefused cause) replies = refl

module _ {K V C H W X P F L T E S : Type 0} (eq : K → K → Bool) (is_clone : V → V → Type 0) (is_infallible : V → Type 0) (settings : Settings K V) where
  -- a call gives out the notice of its reply
  pub given-reply : (steps : List (AcceptedStep K V E)) (call : Call K V E) (reply : Reply K V C H W X P F L T E S) → IsReplyTo eq is_clone is_infallible settings steps call reply
      → given_out eq settings (events_in (after_reply eq settings call reply steps)) ≡ given_out eq settings (events_in steps) ++ noticed_in (reply ∷ [])
  given-reply steps call (Found v) is = given-by_reply is_clone eq settings steps call (calls.Found v) is.0
  given-reply steps call (Contains b) is = given-by_reply is_clone eq settings steps call (calls.Contains b) is.0
  given-reply steps call Done is = given-by_reply is_clone eq settings steps call calls.Done is.0
  given-reply steps call (Counted n) is = given-by_reply is_clone eq settings steps call (calls.Counted n) is.0
  given-reply steps call (Left b) is = given-by_reply is_clone eq settings steps call (calls.Left b) is.0
  given-reply steps call (Noticed None) is = given-by_reply is_clone eq settings steps call (calls.Noticed None) is.0
  given-reply steps call (Noticed (Some n)) is = given-by_reply is_clone eq settings steps call (calls.Noticed (Some (removal_of n))) is.0
  given-reply steps call (Entered entry) is = given-by_reply is_clone eq settings steps call (calls.Entered (entry_of entry)) is.0
  given-reply steps call (Run name entry) is = given-by_reply is_clone eq settings steps call (calls.Run (name_by name) (option_map entry_of entry)) is.0
  given-reply steps call (Wait name) is = given-by_reply is_clone eq settings steps call (calls.Wait (name_by name)) is.0
  given-reply steps call Nothing is = given-by_reply is_clone eq settings steps call calls.GaveNothing is.0
  given-reply steps call (Failed error) is = given-by_reply is_clone eq settings steps call (calls.GaveError (arc_value error)) is.0
  given-reply steps call (Computed (results.StillNone key)) is = given-by_reply is_clone eq settings steps call (calls.StillNone (arc_value key)) is.0
  given-reply steps call (Computed (results.Unchanged entry)) is = given-by_reply is_clone eq settings steps call (calls.Unchanged (entry_of entry)) is.0
  given-reply steps call (Computed (results.Inserted entry)) is = given-by_reply is_clone eq settings steps call (calls.Inserted (entry_of entry)) is.0
  given-reply steps call (Computed (results.ReplacedWith entry)) is = given-by_reply is_clone eq settings steps call (calls.ReplacedWith (entry_of entry)) is.0
  given-reply steps call (Computed (results.Removed entry)) is = given-by_reply is_clone eq settings steps call (calls.Removed (entry_of entry)) is.0
  given-reply steps call NotYet is = given-by_reply is_clone eq settings steps call calls.NotYet is.0
  given-reply steps call Abandoned is = given-by_reply is_clone eq settings steps call calls.WasAbandoned is.0
  given-reply steps call Ended is = given-by_reply is_clone eq settings steps call calls.HasEnded is.0
  given-reply steps call (Refused cause) is = sym (append-nil (given_out eq settings (events_in steps)))
  given-reply steps call (PredicateRefused cause) is = sym (append-nil (given_out eq settings (events_in steps)))

module _ {K V C H W X P F L T E S : Type 0} (eq : K → K → Bool) (test : P → K → V → Bool) (is_clone : V → V → Type 0) (is_infallible : V → Type 0) (settings : Settings K V) where
  -- a run gives out the notices of its replies
  given-run : (before : List (AcceptedStep K V E)) (calls : List (Step K V C H W X P F L T E S)) (replies : List (Reply K V C H W X P F L T E S)) → IsRun eq test settings is_clone is_infallible before calls replies
      → given_out eq settings (events_in (after_all eq test settings calls replies before)) ≡ given_out eq settings (events_in before) ++ noticed_in replies
  given-run before [] [] run = sym (append-nil (given_out eq settings (events_in before)))
  given-run before [] (r ∷ rs) run = absurd run
  given-run before (s ∷ ss) [] run = absurd run
  given-run before (s ∷ ss) (r ∷ rs) run =
      let given : List (Removal K V) = given_out eq settings (events_in before) in
      given-run (after_reply eq settings (call_of test s) r before) ss rs run.1
      ∙ ap (λ l. l ++ noticed_in rs) (given-reply eq is_clone is_infallible settings before (call_of test s) r run.0)
      ∙ append_assoc given (noticed_in (r ∷ [])) (noticed_in rs)
      ∙ ap (λ l. given ++ l) (noticed_in-cons r rs)

  -- so nothing is lost or doubled by it
  pub run-conserved : IsEquivalence eq → (view : WholeView K V E) (before : List (AcceptedStep K V E)) (calls : List (Step K V C H W X P F L T E S)) (replies : List (Reply K V C H W X P F L T E S)) → IsRun eq test settings is_clone is_infallible before calls replies
      → StandsFor eq is_clone settings view (after_all eq test settings calls replies before) → IsConserved eq settings (events_in (after_all eq test settings calls replies before)) view.values.books (given_out eq settings (events_in before) ++ noticed_in replies)
  run-conserved laws view before calls replies run stands =
      let all = events_in (after_all eq test settings calls replies before) in
      subst (λ b. IsConserved eq settings all b (given_out eq settings (events_in before) ++ noticed_in replies)) (sym stands.books)
      (subst (IsConserved eq settings all (books_of eq settings all)) (given-run before calls replies run) (is_conserved eq settings laws all))
