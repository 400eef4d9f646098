-- What holds of a run holds of each history that has its clones, up to clones.
use Rattle.std.proofs.Common.{◌≡◌, ℕ, zero, suc, Bool, Some, None, List, [], ◌∷◌, sym, ap, ◌∙◌, subst, slice_get}
use Rattle.std.proofs.lemmas.Option.{same_Some}
use Rattle.moka_model.specs.declared.turns.Kind.TheVariants.{With}
use Rattle.moka_model.specs.declared.turns.Outcome.TheVariants.{Value}
use Rattle.moka_model.specs.Entries.{entry_of}
use Rattle.moka_model.specs.Lives.{Settings}
use Rattle.moka_model.specs.Steps.{AcceptedStep, events_in}
use Rattle.moka_model.specs.Calls.{live_at}
use Rattle.moka_state.specs.declared.step.Step.{Step}
use Rattle.moka_state.specs.declared.step.Step.TheVariants.{Begin, Finish, Collect}
use Rattle.moka_state.specs.declared.step.Reply.{Reply}
use Rattle.moka_state.specs.declared.step.Reply.TheVariants.{Entered, Run, Wait}
use Rattle.moka_state.specs.Recorded.{AreRecords}
use Rattle.moka_recording.specs.Receipts.{pairs}
use Rattle.moka_recorded_laws.specs.HistoryLaws.{SameUpToClones, clone, original, through, steps_of, replies_of, OpensInOnePass}
use Rattle.moka_recorded_laws.specs.RunLaws.{OpensOnce, FindsLive, CollectsFinished, FinishesAfterOpening}
use Rattle.moka_recorded_laws.proofs.Copies.{begin-of, collect-of, finish-of, value-copy, fine-copy, fine-of, run-of, wait-of, entered-of, said-at, done-at, kept-at}

module _ {V : Type 0} (is_clone : V → V → Type 0) (equal : (v w : V) → is_clone v w → w ≡ v) where
  -- if clones equal their originals, what is the same up to clones is equal
  pub same : (v w : V) → SameUpToClones is_clone v w → w ≡ v
  same _ _ (clone v w is) = equal v w is
  same _ _ (original v w is) = sym (equal v w is)
  same _ _ (through u v w one other) = same v w other ∙ same u v one

module _ {S R : Type 0} where
  pub reply-at : (log : List (ℕ × S × R)) (place : ℕ) (e : ℕ × S × R) → slice_get log place ≡ Some e → slice_get (replies_of (pairs log)) place ≡ Some e.2
  reply-at [] place e is = cc
  reply-at (x ∷ xs) zero e is = ap (λ (y : ℕ × S × R). Some y.2) (same_Some x e is)
  reply-at (x ∷ xs) (suc place) e is = reply-at xs place e is

  pub same-pass : (log : List (ℕ × S × R)) (i j : ℕ) (d e : ℕ × S × R) → slice_get log i ≡ Some d → slice_get log j ≡ Some e → i ≡ j → d.0 ≡ e.0
  same-pass log i j d e one other same = ap (λ (y : ℕ × S × R). y.0) (same_Some d e (sym one ∙ ap (slice_get log) same ∙ other))

module _ {K V C H W X P F L T E S : Type 0} where
  pub in-one-pass : (log : List (ℕ × Step K V C H W X P F L T E S × Reply K V C H W X P F L T E S)) → OpensOnce (replies_of (pairs log)) → OpensInOnePass log
  in-one-pass log once i j d e a b shown told one other opens runs same =
      let place = once i j a b shown told (reply-at log i d one ∙ ap Some opens) (reply-at log j e other ∙ ap Some runs) same in
      (place, same-pass log i j d e one other place)

module _ {K V C H W X P F L T E S : Type 0} (is_clone : V → V → Type 0) (done history : List (Step K V C H W X P F L T E S × Reply K V C H W X P F L T E S)) (are : AreRecords is_clone done history) where
  pub opens-kept : OpensOnce (replies_of done) → OpensOnce (replies_of history)
  opens-kept once i j a b shown told one other same =
      let first = said-at is_clone done history are i (Run a shown) one in
      let next = said-at is_clone done history are j (Run b told) other in
      let opens = run-of is_clone first.0 a shown first.2 in
      let runs = run-of is_clone next.0 b told next.2 in
      once i j opens.0 runs.0 opens.1 runs.1 (first.1 ∙ ap Some opens.2) (next.1 ∙ ap Some runs.2) (opens.3 ∙ same ∙ sym runs.3)

  pub finishes-kept : FinishesAfterOpening (steps_of done) (replies_of done) → FinishesAfterOpening (steps_of history) (replies_of history)
  finishes-kept after p q begin name called shown outcome now reply opened has fine same =
      let first = done-at is_clone done history are p begin (Run name shown) opened in
      let next = done-at is_clone done history are q (Finish called outcome now) reply has in
      let opens = run-of is_clone first.1 name shown first.4 in
      let ends = finish-of is_clone next.0 called outcome now next.3 in
      after p q first.0 opens.0 ends.0 opens.1 ends.1 ends.2 next.1
      (first.2.0, first.2.1 ∙ ap Some opens.2)
      (next.2.0 ∙ ap Some ends.3, next.2.1)
      (fine-of is_clone next.1 reply next.4 fine)
      (ends.4 ∙ same ∙ sym opens.3)

  pub collects-kept : CollectsFinished (steps_of done) (replies_of done) is_clone → CollectsFinished (steps_of history) (replies_of history) (SameUpToClones is_clone)
  collects-kept law p q begin name called entry waited has same less =
      let first = done-at is_clone done history are p begin (Wait name) waited in
      let next = done-at is_clone done history are q (Collect called) (Entered entry) has in
      let waits = wait-of is_clone first.1 name first.4 in
      let asks = collect-of is_clone next.0 called next.3 in
      let gets = entered-of is_clone next.1 entry next.4 in
      let it = law p q first.0 waits.0 asks.0 gets.0 (first.2.0, first.2.1 ∙ ap Some waits.1) (next.2.0 ∙ ap Some asks.1, next.2.1 ∙ ap Some gets.2) (asks.2 ∙ same ∙ sym waits.2) less in
      let made = it.0 in
      let ended = it.4 in
      let kept = kept-at is_clone done history are it.1 (Finish ended.0 (Value made) ended.1) ended.2 ended.4 in
      let copy = value-copy is_clone ended.0 made ended.1 kept.0 kept.3 in (
        copy.1,
        it.1,
        it.2,
        it.3,
        (copy.0, copy.2, kept.1, copy.4 ∙ ended.3 ∙ waits.2, (kept.2.0 ∙ ap Some copy.3, kept.2.1), fine-copy is_clone ended.2 kept.1 kept.4 ended.5),
        through copy.1 made (entry_of entry).value (original made copy.1 copy.5)
            (through made (entry_of gets.0).value (entry_of entry).value (clone made (entry_of gets.0).value it.5)
            (through (entry_of gets.0).value gets.1.value (entry_of entry).value (original gets.1.value (entry_of gets.0).value gets.3.1) (clone gets.1.value (entry_of entry).value gets.4.1))),
      )

  pub finds-kept : (eq : K → K → Bool) (settings : Settings K V) (before : ℕ → List (AcceptedStep K V E)) → FindsLive eq settings before (steps_of done) (replies_of done) is_clone → FindsLive eq settings before (steps_of history) (replies_of history) (SameUpToClones is_clone)
  finds-kept eq settings before law place key now entry has =
      let it = done-at is_clone done history are place (Begin key With None now) (Entered entry) has in
      let begins = begin-of is_clone it.0 key With None now it.3 in
      let gets = entered-of is_clone it.1 entry it.4 in
      let live = law place begins.0 now gets.0 (it.2.0 ∙ ap Some begins.1, it.2.1 ∙ ap Some gets.2) in (
        live.0,
        subst (λ k. live_at eq settings k now (events_in (before place)) ≡ Some live.0) begins.2 live.1,
        gets.4.0 ∙ sym gets.3.0 ∙ live.2,
        through live.0.value (entry_of gets.0).value (entry_of entry).value (clone live.0.value (entry_of gets.0).value live.3)
            (through (entry_of gets.0).value gets.1.value (entry_of entry).value (original gets.1.value (entry_of gets.0).value gets.3.1) (clone gets.1.value (entry_of entry).value gets.4.1)),
      )
