-- A turn is opened at one place of a run only.
use Rattle.std.proofs.Common.{◌≡◌, ◌⊎◌, inl, inr, ⊎_elim, ℕ, zero, suc, ◌<◌, ◌≤◌, Bool, Option, Some, None, List, [], ◌∷◌, refl, sym, ap, ◌∙◌, subst, arith, option_map, slice_get}
use Rattle.std.proofs.lemmas.Option.{same_Some}
use Rattle.moka_model.specs.declared.entry.Entry.{Entry}
use Rattle.moka_model.specs.Entries.{entry_of}
use Rattle.moka_model.specs.Lives.{Settings}
use Rattle.moka_model.specs.Numbers.{next_number}
use Rattle.moka_model.specs.Steps.{AcceptedStep, events_in}
use Rattle.moka_model.specs.Calls as calls
use Rattle.moka_model.specs.Calls.{Call, Accepted, IsLegal, accepted, after, with_step}
use Rattle.moka_model.proofs.Callers.{next-grows}
use Rattle.moka_turns.specs.declared.turn_name.TurnName.{TurnName}
use Rattle.moka_turns.specs.Handles.{name_by}
use Rattle.moka_state.specs.declared.step.Step.{Step}
use Rattle.moka_state.specs.declared.step.Reply.{Reply}
use Rattle.moka_state.specs.declared.step.Reply.TheVariants.{Run, Refused, PredicateRefused}
use Rattle.moka_state.specs.Replies.{IsRefusal}
use Rattle.moka_state.specs.Step.{call_of, IsAccepted, IsReplyTo, IsRun, after_reply}
use Rattle.moka_recorded_laws.specs.RunLaws.{OpensOnce}
use Rattle.moka_recorded_laws.proofs.Moves.{by, of-run, draws}

module _ {K V C H W X P F L T E S : Type 0} (eq : K → K → Bool) (settings : Settings K V) where
  -- a reply adds no step, or the step of an accepted call
  pub adds : (call : Call K V E) (reply : Reply K V C H W X P F L T E S) (ds : List (AcceptedStep K V E)) →
      (after_reply eq settings call reply ds ≡ ds)
      ⊎ ((it : Accepted K V E) × ¬ (IsRefusal reply) × (accepted eq settings ds call ≡ Some it) × (after_reply eq settings call reply ds ≡ it.step ∷ ds))
  adds call reply ds = ⊎_elim inl (λ kept. go kept.0 kept.1 (accepted eq settings ds call) refl) (kept-or reply)
    where
      kept-or : (r : Reply K V C H W X P F L T E S) → (after_reply eq settings call r ds ≡ ds) ⊎ (¬ (IsRefusal r) × (after_reply eq settings call r ds ≡ after eq settings call ds))
      kept-or (Refused cause) = inl refl
      kept-or (PredicateRefused cause) = inl refl
      kept-or r = inr (λ is. is, refl)

      go : ¬ (IsRefusal reply) → after_reply eq settings call reply ds ≡ after eq settings call ds → (o : Option (Accepted K V E)) → accepted eq settings ds call ≡ o →
          (after_reply eq settings call reply ds ≡ ds)
          ⊎ ((it : Accepted K V E) × ¬ (IsRefusal reply) × (accepted eq settings ds call ≡ Some it) × (after_reply eq settings call reply ds ≡ it.step ∷ ds))
      go fine same None is = inl (same ∙ ap (λ o. with_step o ds) is)
      go fine same (Some it) is = inr (it, fine, is, same ∙ ap (λ o. with_step o ds) is)

  -- what holds before a reply, and with the step of each accepted call, holds after it
  pub after-by : (Q : List (AcceptedStep K V E) → Type 0) (call : Call K V E) (reply : Reply K V C H W X P F L T E S) (ds : List (AcceptedStep K V E)) →
      Q ds → ((it : Accepted K V E) → accepted eq settings ds call ≡ Some it → Q (it.step ∷ ds)) → Q (after_reply eq settings call reply ds)
  after-by Q call reply ds old more = go (adds call reply ds)
    where
      go : (after_reply eq settings call reply ds ≡ ds)
          ⊎ ((it : Accepted K V E) × ¬ (IsRefusal reply) × (accepted eq settings ds call ≡ Some it) × (after_reply eq settings call reply ds ≡ it.step ∷ ds)) →
          Q (after_reply eq settings call reply ds)
      go (inl same) = subst Q (sym same) old
      go (inr (it, fine, is, same)) = subst Q (sym same) (more it is)

  pub legal-more : (call : Call K V E) (reply : Reply K V C H W X P F L T E S) (ds : List (AcceptedStep K V E)) → IsLegal eq settings ds → IsLegal eq settings (after_reply eq settings call reply ds)
  legal-more call reply ds legal = after-by (IsLegal eq settings) call reply ds legal (λ it is. ((call, it, is, refl), legal))

  pub next-le : (call : Call K V E) (reply : Reply K V C H W X P F L T E S) (ds : List (AcceptedStep K V E)) → next_number settings (events_in ds) ≤ next_number settings (events_in (after_reply eq settings call reply ds))
  next-le call reply ds = after-by (λ all. next_number settings (events_in ds) ≤ next_number settings (events_in all)) call reply ds (omega arith) (λ it is. next-grows settings it.step.events (events_in ds))

module _ {K V E : Type 0} (eq : K → K → Bool) (is_clone : V → V → Type 0) (settings : Settings K V) where
  -- a reply `Run` has the next number, and the number after it is greater
  pub runs : (call : Call K V E) (ds : List (AcceptedStep K V E)) (name : TurnName K) (shown : Option (Entry K V)) → IsLegal eq settings ds
      → IsAccepted eq is_clone settings ds call (calls.Run (name_by name) (option_map entry_of shown))
      → (name.number ≡ next_number settings (events_in ds)) × (name.number < next_number settings (events_in (after eq settings call ds)))
  runs call ds name shown legal is =
      let made = by is_clone (accepted eq settings ds call) _ is.0 in
      let own = of-run is_clone made.0.reply (name_by name) (option_map entry_of shown) made.2 in
      let drawn = draws eq settings ds legal call made.0 made.1 (name_by name) own.0 own.1 in
      (drawn.0, subst (λ o. name.number < next_number settings (events_in (with_step o ds))) (sym made.1) drawn.1)

module _ {K V C H W X P F L T E S : Type 0} (eq : K → K → Bool) (is_clone : V → V → Type 0) (is_infallible : V → Type 0) (test : P → K → V → Bool) (settings : Settings K V) where
  -- the reply is right for the step after these accepted steps
  abbrev pub Replies : List (AcceptedStep K V E) → Step K V C H W X P F L T E S → Reply K V C H W X P F L T E S → Type 0
  Replies ds step reply = IsReplyTo eq is_clone is_infallible settings ds (call_of test step) reply

  -- each later `Run` has a number that is not drawn yet
  pub above : (ds : List (AcceptedStep K V E)) (steps : List (Step K V C H W X P F L T E S)) (replies : List (Reply K V C H W X P F L T E S)) (j : ℕ) (name : TurnName K) (shown : Option (Entry K V)) → IsLegal eq settings ds
      → IsRun eq test settings is_clone is_infallible ds steps replies → slice_get replies j ≡ Some (Run name shown) → next_number settings (events_in ds) ≤ name.number
  above ds [] [] j name shown legal run has = cc
  above ds [] (r ∷ rs) j name shown legal run has = absurd run
  above ds (s ∷ ss) [] j name shown legal run has = cc
  above ds (s ∷ ss) (r ∷ rs) zero name shown legal run has =
      let is : Replies ds s (Run name shown) = subst (Replies ds s) (same_Some r (Run name shown) has) run.0 in
      let drawn = (runs eq is_clone settings (call_of test s) ds name shown legal is).0 in omega (arith, drawn)
  above ds (s ∷ ss) (r ∷ rs) (suc j) name shown legal run has =
      let low = next-le eq settings (call_of test s) r ds in
      let more = above (after_reply eq settings (call_of test s) r ds) ss rs j name shown (legal-more eq settings (call_of test s) r ds legal) run.1 has in
      omega (arith, low, more)

  -- the first `Run` is of no later one's turn
  apart : (ds : List (AcceptedStep K V E)) (s : Step K V C H W X P F L T E S) (ss : List (Step K V C H W X P F L T E S)) (r : Reply K V C H W X P F L T E S) (rs : List (Reply K V C H W X P F L T E S)) (j : ℕ) (a b : TurnName K) (shown seen : Option (Entry K V)) → IsLegal eq settings ds
      → IsRun eq test settings is_clone is_infallible ds (s ∷ ss) (r ∷ rs) → r ≡ Run a shown → slice_get rs j ≡ Some (Run b seen) → a.number ≡ b.number → ⊥
  apart ds s ss r rs j a b shown seen legal run first has same =
      let is : Replies ds s (Run a shown) = subst (Replies ds s) first run.0 in
      let low = (runs eq is_clone settings (call_of test s) ds a shown legal is).1 in
      let below : a.number < next_number settings (events_in (after_reply eq settings (call_of test s) r ds)) = subst (λ (q : Reply K V C H W X P F L T E S). a.number < next_number settings (events_in (after_reply eq settings (call_of test s) q ds))) (sym first) low in
      let more = above (after_reply eq settings (call_of test s) r ds) ss rs j b seen (legal-more eq settings (call_of test s) r ds legal) run.1 has in
      omega (arith, below, more, same)

  opens-once : (ds : List (AcceptedStep K V E)) (steps : List (Step K V C H W X P F L T E S)) (replies : List (Reply K V C H W X P F L T E S)) → IsLegal eq settings ds → IsRun eq test settings is_clone is_infallible ds steps replies → OpensOnce replies
  opens-once ds [] [] legal run i j a b shown seen is has same = cc
  opens-once ds [] (r ∷ rs) legal run i j a b shown seen is has same = absurd run
  opens-once ds (s ∷ ss) [] legal run i j a b shown seen is has same = cc
  opens-once ds (s ∷ ss) (r ∷ rs) legal run zero zero a b shown seen is has same = refl
  opens-once ds (s ∷ ss) (r ∷ rs) legal run zero (suc j) a b shown seen is has same = absurd (apart ds s ss r rs j a b shown seen legal run (same_Some r (Run a shown) is) has same)
  opens-once ds (s ∷ ss) (r ∷ rs) legal run (suc i) zero a b shown seen is has same = absurd (apart ds s ss r rs i b a seen shown legal run (same_Some r (Run b seen) has) is (sym same))
  opens-once ds (s ∷ ss) (r ∷ rs) legal run (suc i) (suc j) a b shown seen is has same = ap suc (opens-once (after_reply eq settings (call_of test s) r ds) ss rs (legal-more eq settings (call_of test s) r ds legal) run.1 i j a b shown seen is has same)

  pub opens_once : (steps : List (Step K V C H W X P F L T E S)) (replies : List (Reply K V C H W X P F L T E S)) → IsRun eq test settings is_clone is_infallible [] steps replies → OpensOnce replies
  opens_once steps replies run = opens-once [] steps replies tt run
