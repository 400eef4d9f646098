-- What a begin finds, and what a collect returns of a turn that was waited for.
use Rattle.std.proofs.Common.{◌≡◌, ◌⊎◌, inl, inr, ⊎_elim, ℕ, zero, suc, ◌<◌, ◌≤◌, ◌==◌, Bool, true, false, cond, Option, Some, None, List, [], ◌∷◌, ◌++◌, refl, sym, ap, ◌∙◌, subst, arith, option_map}
use Rattle.std.specs.Prelude.{take}
use Rattle.std.specs.declared.sync.Arc.{Arc}
use Rattle.std.specs.declared.alloc.Global.{Global}
use Rattle.std.specs.Arc.{arc_value}
use Rattle.std.proofs.lemmas.Bool.{and_parts, eqb-true}
use Rattle.std.proofs.lemmas.Option.{same_Some}
use Rattle.moka_model.specs.declared.entry.Entry.{Entry}
use Rattle.moka_model.specs.declared.turns.Kind.TheVariants.{With}
use Rattle.moka_model.specs.declared.turns.Outcome.{Outcome}
use Rattle.moka_model.specs.declared.turns.Outcome.TheVariants as outcomes
use Rattle.moka_model.specs.Entries.{entry_of}
use Rattle.moka_model.specs.Lives.{Settings}
use Rattle.moka_model.specs.Numbers.{next_number}
use Rattle.moka_model.specs.Steps.{AcceptedStep, events_in, turns}
use Rattle.moka_model.specs.Turns.{End, Ended, Value, Waited, Name, Turn, fits, found, is_open, is_open_as, same_name}
use Rattle.moka_model.specs.Calls as calls
use Rattle.moka_model.specs.Calls.{Call, Accepted, IsLegal, accepted, with_step, live_at}
use Rattle.moka_model.proofs.Callers.{OnSome, found-is, legal-fit, turns-below}
use Rattle.moka_laws.specs.TurnLaws.{EndedBy, IsOutcome, Shows, waits_in, waits_of}
use Rattle.moka_laws.proofs.Begins.{finds_acceptable}
use Rattle.moka_laws.proofs.Ends.{shows}
use Rattle.moka_laws.proofs.Outcomes.{collects_give}
use Rattle.moka_laws.proofs.Tickets.{count_same}
use Rattle.moka_turns.specs.declared.turn_name.TurnName.{TurnName}
use Rattle.moka_turns.specs.Handles.{name_by}
use Rattle.moka_state.specs.declared.step.Step.{Step}
use Rattle.moka_state.specs.declared.step.Step.TheVariants.{Begin, Finish, Abandon, Collect}
use Rattle.moka_state.specs.declared.step.Reply.{Reply}
use Rattle.moka_state.specs.declared.step.Reply.TheVariants.{Entered, Wait, Refused, PredicateRefused}
use Rattle.moka_state.specs.Finish.{outcome_of}
use Rattle.moka_state.specs.Replies.{IsRefusal}
use Rattle.moka_state.specs.Step.{call_of, IsRun, after_reply, after_all}
use Rattle.moka_recorded_laws.specs.RunLaws.{accepted_before, Has, IsFinishedAt, CollectsFinished, FinishesAfterOpening, FindsLive}
use Rattle.moka_recorded_laws.proofs.Moves.{by, of-wait, of-entered, waits}
use Rattle.moka_recorded_laws.proofs.Openings.{adds, after-by, legal-more, above, Replies}

same-number : {K : Type 0} (eq : K → K → Bool) (a b : Name K) → same_name eq a b ≡ true → a.number ≡ b.number
same-number eq a b same = eqb-true a.number b.number (and_parts (a.number == b.number) _ same).0

module _ {K V E : Type 0} where
  -- what waits before a step waits after it
  waits-rest : (n : ℕ) (mid : List (AcceptedStep K V E)) (d : AcceptedStep K V E) (prior : List (AcceptedStep K V E)) → waits_of n prior ≤ waits_of n (mid ++ d ∷ prior)
  waits-rest n [] d prior = omega arith
  waits-rest n (x ∷ xs) d prior = let more = waits-rest n xs d prior in omega (arith, more)

  -- a turn that is waited for has not ended before that, if no wait for it comes after its end
  stale : (n m : ℕ) (end : End V E) (w d : AcceptedStep K V E) (ds more prior : List (AcceptedStep K V E)) → w ∷ ds ≡ more ++ d ∷ prior → w.move ≡ Some (Waited n) → d.move ≡ Some (Ended m end) → waits_of n (w ∷ ds) ≤ waits_of n prior → ⊥
  stale n m end w d ds [] prior place waited ended le =
      let same : w ≡ d = cc in
      let no : Some (Waited n) ≡ Some (Ended m end) = sym waited ∙ ap (λ (x : AcceptedStep K V E). x.move) same ∙ ended in
      cc
  stale n m end w d ds (x ∷ xs) prior place waited ended le =
      let rest : ds ≡ xs ++ d ∷ prior = cc in
      let one : waits_in n w.move ≡ 1 = ap (waits_in n) waited ∙ count_same n n refl in
      let more : waits_of n prior ≤ waits_of n ds = subst (λ l. waits_of n prior ≤ waits_of n l) (sym rest) (waits-rest n xs d prior) in
      omega (arith, one, more, le)

  -- a turn is found where a finish is accepted
  found-turn : (b : Bool) (make : Turn K V E → Accepted K V E) (o : Option (Turn K V E)) (it : Accepted K V E) → cond b (option_map make o) None ≡ Some it → (t : Turn K V E) × (o ≡ Some t)
  found-turn true make (Some t) it is = (t, refl)
  found-turn true make None it is = cc
  found-turn false make o it is = cc

module _ {K V C H W X P F L T E S : Type 0} (eq : K → K → Bool) (test : P → K → V → Bool) (settings : Settings K V) where
  -- waits stay
  waits-le : (n q : ℕ) (ds : List (AcceptedStep K V E)) (steps : List (Step K V C H W X P F L T E S)) (replies : List (Reply K V C H W X P F L T E S)) → waits_of n ds ≤ waits_of n (after_all eq test settings (take q steps) (take q replies) ds)
  waits-le n zero ds steps replies = omega arith
  waits-le n (suc q) ds [] replies = omega arith
  waits-le n (suc q) ds (s ∷ ss) [] = omega arith
  waits-le n (suc q) ds (s ∷ ss) (r ∷ rs) =
      let one = after-by eq settings (λ all. waits_of n ds ≤ waits_of n all) (call_of test s) r ds (omega arith) (λ it is. omega arith) in
      let more = waits-le n q (after_reply eq settings (call_of test s) r ds) ss rs in
      omega (arith, one, more)

  -- the step is that of the call at this place
  abbrev Made : List (Step K V C H W X P F L T E S) → List (Reply K V C H W X P F L T E S) → ℕ → AcceptedStep K V E → Type 0
  Made steps replies place d =
      (step : Step K V C H W X P F L T E S) × (reply : Reply K V C H W X P F L T E S) × (before : List (AcceptedStep K V E)) × (it : Accepted K V E)
      × Has steps replies place step reply × ¬ (IsRefusal reply) × (accepted eq settings before (call_of test step) ≡ Some it) × (it.step ≡ d)

  -- where a run's step comes from: from before the run, or from one of its places
  abbrev From : List (AcceptedStep K V E) → List (Step K V C H W X P F L T E S) → List (Reply K V C H W X P F L T E S) → ℕ → AcceptedStep K V E → List (AcceptedStep K V E) → Type 0
  From ds steps replies q d prior = ((more : List (AcceptedStep K V E)) × (ds ≡ more ++ d ∷ prior)) ⊎ ((r : ℕ) × (r < q) × Made steps replies r d)

  made-first : (ds : List (AcceptedStep K V E)) (s : Step K V C H W X P F L T E S) (ss : List (Step K V C H W X P F L T E S)) (r : Reply K V C H W X P F L T E S) (rs : List (Reply K V C H W X P F L T E S)) (q : ℕ) (d : AcceptedStep K V E) (prior : List (AcceptedStep K V E)) (it : Accepted K V E) → ¬ (IsRefusal r) → accepted eq settings ds (call_of test s) ≡ Some it
      → (more : List (AcceptedStep K V E)) → it.step ∷ ds ≡ more ++ d ∷ prior → From ds (s ∷ ss) (r ∷ rs) (suc q) d prior
  made-first ds s ss r rs q d prior it fine is [] place = let same : it.step ≡ d = cc in inr (zero, omega arith, (s, r, ds, it, (refl, refl), fine, is, same))
  made-first ds s ss r rs q d prior it fine is (x ∷ xs) place = let rest : ds ≡ xs ++ d ∷ prior = cc in inl (xs, rest)

  made-later : (ds : List (AcceptedStep K V E)) (s : Step K V C H W X P F L T E S) (ss : List (Step K V C H W X P F L T E S)) (r : Reply K V C H W X P F L T E S) (rs : List (Reply K V C H W X P F L T E S)) (q : ℕ) (d : AcceptedStep K V E) (prior : List (AcceptedStep K V E))
      → From (after_reply eq settings (call_of test s) r ds) ss rs q d prior → From ds (s ∷ ss) (r ∷ rs) (suc q) d prior
  made-later ds s ss r rs q d prior (inr (place, less, made)) = inr (suc place, omega (arith, less), made)
  made-later ds s ss r rs q d prior (inl (more, is)) = go (adds eq settings (call_of test s) r ds)
    where
      go : (after_reply eq settings (call_of test s) r ds ≡ ds)
          ⊎ ((it : Accepted K V E) × ¬ (IsRefusal r) × (accepted eq settings ds (call_of test s) ≡ Some it) × (after_reply eq settings (call_of test s) r ds ≡ it.step ∷ ds))
          → From ds (s ∷ ss) (r ∷ rs) (suc q) d prior
      go (inl same) = inl (more, sym same ∙ is)
      go (inr (it, fine, took, same)) = made-first ds s ss r rs q d prior it fine took more (sym same ∙ is)

  found-step : (ds : List (AcceptedStep K V E)) (steps : List (Step K V C H W X P F L T E S)) (replies : List (Reply K V C H W X P F L T E S)) (q : ℕ) (later : List (AcceptedStep K V E)) (d : AcceptedStep K V E) (prior : List (AcceptedStep K V E))
      → after_all eq test settings (take q steps) (take q replies) ds ≡ later ++ d ∷ prior → From ds steps replies q d prior
  found-step ds steps replies zero later d prior is = inl (later, is)
  found-step ds [] replies (suc q) later d prior is = inl (later, is)
  found-step ds (s ∷ ss) [] (suc q) later d prior is = inl (later, is)
  found-step ds (s ∷ ss) (r ∷ rs) (suc q) later d prior is = made-later ds s ss r rs q d prior (found-step (after_reply eq settings (call_of test s) r ds) ss rs q later d prior is)

  -- what ends a turn with a value finishes it with that value
  finish-of : (n : ℕ) (v : V) (replaced : Bool) (step : Step K V C H W X P F L T E S) → EndedBy n (Value v replaced) (call_of test step) → (name : TurnName K) × (now : ℕ) × (step ≡ Finish name (outcomes.Value v) now) × (name.number ≡ n)
  finish-of n v replaced (Finish name (outcomes.Value w) now) is = (name, now, ap (λ x. Finish name (outcomes.Value x) now) is.1, sym is.0)
  finish-of n v replaced (Finish name outcomes.Nothing now) is = absurd is.1
  finish-of n v replaced (Finish name (outcomes.Failed e) now) is = absurd is.1
  finish-of n v replaced (Finish name (outcomes.Op op) now) is = absurd is.1
  finish-of n v replaced (Abandon name) is = let no = is.1 in cc
  finish-of n v replaced step is = absurd is

  finished-at : (steps : List (Step K V C H W X P F L T E S)) (replies : List (Reply K V C H W X P F L T E S)) (place n : ℕ) (v : V) (replaced : Bool) (d : AcceptedStep K V E) → d.move ≡ Some (Ended n (Value v replaced)) → Made steps replies place d → IsFinishedAt steps replies place n v
  finished-at steps replies place n v replaced d ends (step, reply, before, it, has, fine, is, same) =
      let says = subst (OnSome (λ (a : Accepted K V E). Shows (call_of test step) a.reply a.step.move)) is (shows eq settings (events_in before) (turns before) (call_of test step)) in
      let ended : EndedBy n (Value v replaced) (call_of test step) = subst (λ m. Shows (call_of test step) it.reply m) (ap (λ (x : AcceptedStep K V E). x.move) same ∙ ends) says in
      let it_is = finish-of n v replaced step ended in
      (it_is.0, it_is.1, reply, it_is.3, (has.0 ∙ ap Some it_is.2, has.1), fine)

module _ {K V C H W X P F L T E S : Type 0} (eq : K → K → Bool) (is_clone : V → V → Type 0) (is_infallible : V → Type 0) (test : P → K → V → Bool) (settings : Settings K V) where
  -- the reply at a place is right after the accepted steps before it
  pub at-place : (ds : List (AcceptedStep K V E)) (steps : List (Step K V C H W X P F L T E S)) (replies : List (Reply K V C H W X P F L T E S)) (place : ℕ) (step : Step K V C H W X P F L T E S) (reply : Reply K V C H W X P F L T E S) → IsLegal eq settings ds
      → IsRun eq test settings is_clone is_infallible ds steps replies → Has steps replies place step reply
      → IsLegal eq settings (after_all eq test settings (take place steps) (take place replies) ds) × Replies eq is_clone is_infallible test settings (after_all eq test settings (take place steps) (take place replies) ds) step reply
  at-place ds [] replies place step reply legal run has = let no = has.0 in cc
  at-place ds (s ∷ ss) [] place step reply legal run has = let no = has.1 in cc
  at-place ds (s ∷ ss) (r ∷ rs) zero step reply legal run has =
      (legal, subst (λ x. Replies eq is_clone is_infallible test settings ds x reply) (same_Some s step has.0) (subst (Replies eq is_clone is_infallible test settings ds s) (same_Some r reply has.1) run.0))
  at-place ds (s ∷ ss) (r ∷ rs) (suc place) step reply legal run has = at-place (after_reply eq settings (call_of test s) r ds) ss rs place step reply (legal-more eq settings (call_of test s) r ds legal) run.1 has

  pub finds_live : (steps : List (Step K V C H W X P F L T E S)) (replies : List (Reply K V C H W X P F L T E S)) → IsRun eq test settings is_clone is_infallible [] steps replies → FindsLive eq settings (accepted_before eq test settings steps replies) steps replies is_clone
  finds_live steps replies run place key now entry has =
      let right = (at-place [] steps replies place (Begin key With None now) (Entered entry) tt run has).1 in
      let before = after_all eq test settings (take place steps) (take place replies) [] in
      let made = by is_clone (accepted eq settings before (Call.Begin (arc_value key) With None now)) (calls.Entered (entry_of entry)) right.0 in
      let says = of-entered is_clone made.0.reply (entry_of entry) made.2 in
      let live = finds_acceptable eq settings before (arc_value key) With (λ e. cc) None now says.0 made.0 made.1 says.1 in
      (live.0, live.1, says.2.0 ∙ ap (λ (e : calls.Entry K V). e.key) live.2, subst (λ (e : calls.Entry K V). is_clone e.value (entry_of entry).value) live.2 says.2.1)

  -- of a wait at the first place, and a collect later
  collects-first : (ds : List (AcceptedStep K V E)) (s : Step K V C H W X P F L T E S) (ss : List (Step K V C H W X P F L T E S)) (r : Reply K V C H W X P F L T E S) (rs : List (Reply K V C H W X P F L T E S)) (q : ℕ) (name called : TurnName K) (entry : Entry K V) → IsLegal eq settings ds
      → IsRun eq test settings is_clone is_infallible ds (s ∷ ss) (r ∷ rs) → r ≡ Wait name → Has ss rs q (Collect called) (Entered entry) → called.number ≡ name.number
      → (made : V) × (place : ℕ) × (place < q) × IsFinishedAt ss rs place name.number made × is_clone made (entry_of entry).value
  collects-first ds s ss r rs q name called entry legal run first has same =
      let waited : Replies eq is_clone is_infallible test settings ds s (Wait name) = subst (Replies eq is_clone is_infallible test settings ds s) first run.0 in
      let made = by is_clone (accepted eq settings ds (call_of test s)) (calls.Wait (name_by name)) waited.0 in
      let it = made.0 in
      let moves = waits eq settings ds legal (call_of test s) it made.1 (name_by name) (of-wait is_clone it.reply (name_by name) made.2) in
      let next = after_reply eq settings (call_of test s) r ds in
      let next_is : next ≡ it.step ∷ ds = ap (λ x. after_reply eq settings (call_of test s) x ds) first ∙ ap (λ o. with_step o ds) made.1 in
      let right = at-place next ss rs q (Collect called) (Entered entry) (legal-more eq settings (call_of test s) r ds legal) run.1 has in
      let before = after_all eq test settings (take q ss) (take q rs) next in
      let taken = by is_clone (accepted eq settings before (Call.Collect (name_by called))) (calls.Entered (entry_of entry)) right.1.0 in
      let says = of-entered is_clone taken.0.reply (entry_of entry) taken.2 in
      let outcome : IsOutcome eq before (name_by called) (Value says.0.value says.0.replaced) = ((collects_give eq settings before (legal-fit eq settings before right.0)).value (name_by called) says.0 (taken.0, taken.1, says.1)).2 in
      let number : outcome.turn.name.number ≡ name.number = same-number eq outcome.turn.name (name_by called) outcome.same ∙ same in
      let ends : outcome.step.move ≡ Some (Ended name.number (Value says.0.value says.0.replaced)) = outcome.ends ∙ ap (λ n. Some (Ended n (Value says.0.value says.0.replaced))) number in
      let none_later : waits_of name.number before ≡ waits_of name.number outcome.place.before = subst (λ n. waits_of n before ≡ waits_of n outcome.place.before) number outcome.waits_before in
      let grows : waits_of name.number next ≤ waits_of name.number before = waits-le eq test settings name.number q next ss rs in
      ⊎_elim
      (λ old. absurd (stale name.number name.number (Value says.0.value says.0.replaced) it.step outcome.step ds old.0 outcome.place.before (sym next_is ∙ old.1) moves ends (subst (λ l. waits_of name.number l ≤ waits_of name.number outcome.place.before) next_is (omega (arith, none_later, grows)))))
      (λ new. (says.0.value, new.0, new.1, finished-at eq test settings ss rs new.0 name.number says.0.value says.0.replaced outcome.step ends new.2, says.2.1))
      (found-step eq test settings next ss rs q outcome.place.later outcome.step outcome.place.before outcome.place.place)

  collects-finished : (ds : List (AcceptedStep K V E)) (steps : List (Step K V C H W X P F L T E S)) (replies : List (Reply K V C H W X P F L T E S)) → IsLegal eq settings ds → IsRun eq test settings is_clone is_infallible ds steps replies → CollectsFinished steps replies is_clone
  collects-finished ds [] replies legal run p q begin name called entry waited has same less = let no = waited.0 in cc
  collects-finished ds (s ∷ ss) [] legal run p q begin name called entry waited has same less = let no = waited.1 in cc
  collects-finished ds (s ∷ ss) (r ∷ rs) legal run p zero begin name called entry waited has same less = absurd (omega (arith, less))
  collects-finished ds (s ∷ ss) (r ∷ rs) legal run zero (suc q) begin name called entry waited has same less =
      let it = collects-first ds s ss r rs q name called entry legal run (same_Some r (Wait name) waited.1) has same in
      let low = it.2 in
      (it.0, suc it.1, omega arith, omega (arith, low), it.3, it.4)
  collects-finished ds (s ∷ ss) (r ∷ rs) legal run (suc p) (suc q) begin name called entry waited has same less =
      let it = collects-finished (after_reply eq settings (call_of test s) r ds) ss rs (legal-more eq settings (call_of test s) r ds legal) run.1 p q begin name called entry waited has same (omega (arith, less)) in
      let high = it.2 in
      let low = it.3 in
      (it.0, suc it.1, omega (arith, high), omega (arith, low), it.4, it.5)

  pub collects_finished : (steps : List (Step K V C H W X P F L T E S)) (replies : List (Reply K V C H W X P F L T E S)) → IsRun eq test settings is_clone is_infallible [] steps replies → CollectsFinished steps replies is_clone
  collects_finished steps replies run = collects-finished [] steps replies tt run

  -- a reply that is no failure is that of an accepted call
  accepts : (ds : List (AcceptedStep K V E)) (step : Step K V C H W X P F L T E S) (reply : Reply K V C H W X P F L T E S) → Replies eq is_clone is_infallible test settings ds step reply → ¬ (IsRefusal reply) → (it : Accepted K V E) × (accepted eq settings ds (call_of test step) ≡ Some it)
  accepts ds step (Refused cause) is fine = absurd (fine tt)
  accepts ds step (PredicateRefused cause) is fine = absurd (fine tt)
  accepts ds step reply is fine = let it = by is_clone (accepted eq settings ds (call_of test step)) _ is.0 in (it.0, it.1)

  -- the turn that a finish ends was opened before
  ends-below : (ds : List (AcceptedStep K V E)) (called : TurnName K) (outcome : Outcome V (Arc E Global)) (now : ℕ) (reply : Reply K V C H W X P F L T E S) → IsLegal eq settings ds → Replies eq is_clone is_infallible test settings ds (Finish called outcome now) reply → ¬ (IsRefusal reply) → called.number < next_number settings (events_in ds)
  ends-below ds called outcome now reply legal is fine =
      let made = accepts ds (Finish called outcome now) reply is fine in
      let turn = found-turn (fits called.kind (outcome_of outcome)) _ (found (is_open_as eq (name_by called)) (turns ds)) made.0 made.1 in
      let member = found-is (is_open_as eq (name_by called)) (turns ds) turn.0 turn.1 in
      let number = same-number eq turn.0.name (name_by called) (and_parts (is_open turn.0) (same_name eq turn.0.name (name_by called)) member.1).1 in
      let low = turns-below eq settings ds (legal-fit eq settings ds legal) turn.0 member.0 in
      omega (arith, number, low)

  finishes-after : (ds : List (AcceptedStep K V E)) (steps : List (Step K V C H W X P F L T E S)) (replies : List (Reply K V C H W X P F L T E S)) → IsLegal eq settings ds → IsRun eq test settings is_clone is_infallible ds steps replies → FinishesAfterOpening steps replies
  finishes-after ds [] replies legal run p q begin name called shown outcome now reply opened has fine same = let no = has.0 in cc
  finishes-after ds (s ∷ ss) [] legal run p q begin name called shown outcome now reply opened has fine same = let no = has.1 in cc
  finishes-after ds (s ∷ ss) (r ∷ rs) legal run p zero begin name called shown outcome now reply opened has fine same =
      let right = (at-place ds (s ∷ ss) (r ∷ rs) zero (Finish called outcome now) reply legal run has).1 in
      let low = ends-below ds called outcome now reply legal right fine in
      let high = above eq is_clone is_infallible test settings ds (s ∷ ss) (r ∷ rs) p name shown legal run opened.1 in
      absurd (omega (arith, low, high, same))
  finishes-after ds (s ∷ ss) (r ∷ rs) legal run zero (suc q) begin name called shown outcome now reply opened has fine same = omega arith
  finishes-after ds (s ∷ ss) (r ∷ rs) legal run (suc p) (suc q) begin name called shown outcome now reply opened has fine same =
      let less = finishes-after (after_reply eq settings (call_of test s) r ds) ss rs (legal-more eq settings (call_of test s) r ds legal) run.1 p q begin name called shown outcome now reply opened has fine same in omega (arith, less)

  pub finishes_after : (steps : List (Step K V C H W X P F L T E S)) (replies : List (Reply K V C H W X P F L T E S)) → IsRun eq test settings is_clone is_infallible [] steps replies → FinishesAfterOpening steps replies
  finishes_after steps replies run = finishes-after [] steps replies tt run
