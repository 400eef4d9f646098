-- What a `get_with` returned was live at its begin, or is the outcome of a turn that was finished after it.
use Rattle.std.proofs.Common.{◌≡◌, ◌⊎◌, inl, inr, ℕ, zero, suc, ◌<◌, Bool, Some, None, List, [], ◌∷◌, refl, sym, ap, ◌∙◌, subst, slice_get}
use Rattle.std.proofs.lemmas.Option.{same_Some}
use Rattle.std.specs.Arc.{arc_value}
use Rattle.moka_model.specs.declared.entry.Entry.{Entry}
use Rattle.moka_model.specs.declared.turns.Kind.TheVariants.{With}
use Rattle.moka_model.specs.Entries.{entry_of}
use Rattle.moka_model.specs.Lives.{Settings}
use Rattle.moka_model.specs.Steps.{AcceptedStep, events_in}
use Rattle.moka_model.specs.Calls.{live_at}
use Rattle.moka_model.specs.Turns.{Name}
use Rattle.moka_turns.specs.declared.turn_name.TurnName.{TurnName}
use Rattle.moka_turns.specs.Handles.{name_by}
use Rattle.moka_state.specs.declared.step.Step.{Step}
use Rattle.moka_state.specs.declared.step.Step.TheVariants.{Begin, Collect}
use Rattle.moka_state.specs.declared.step.Reply.{Reply}
use Rattle.moka_state.specs.declared.step.Reply.TheVariants.{Entered}
use Rattle.moka_state.specs.Recorded.{OneStep, OneReply}
use Rattle.moka_state.specs.Replies.{IsRefusal}
use Rattle.moka_single_flight.specs.declared.replies.Begun.TheVariants as begins
use Rattle.moka_single_flight.specs.declared.replies.Collected.TheVariants.{Ready, Retry}
use Rattle.moka_single_flight.specs.declared.replies.Collected.{Collected}
use Rattle.moka_single_flight.specs.Rounds as rounds
use Rattle.moka_recording.specs.declared.receipt.Receipt.{Receipt}
use Rattle.moka_recording.specs.History.{Each, Stands}
use Rattle.moka_recording.specs.declared.receipt.StoredReceipt.{StoredReceipt}
use Rattle.moka_recording.specs.Receipts.{AddsReceipt, pairs}
use Rattle.moka_recorded.specs.declared.named.Named.{Named}
use Rattle.moka_recorded.specs.Gets.{PassOf, Begins, Collects, Finishes, IsBegin}
use Rattle.moka_recorded_laws.specs.HistoryLaws.{SameUpToClones, clone, original, through, steps_of, replies_of}
use Rattle.moka_recorded_laws.specs.RunLaws.{Has, FindsLive, CollectsFinished}
use Rattle.moka_recorded_laws.specs.GetLaws.{HasPlace, NamesTurn, IsLiveOrFinishedAfter, ReturnsLiveOrFinished}
use Rattle.moka_recorded_laws.proofs.Copies.{run-of, wait-of}
use Rattle.moka_recorded_laws.proofs.PassCopies.{stands-front, adds-number, adds-claims, adds-place, adds-keeps, adds-above, begin-copy, collect-copy, finish-copy, got, said-back, waits-back}

module _ {S R : Type 0} where
  -- what the history has at a place, without the number of the pass
  has-at : (log : List (ℕ × S × R)) (place : ℕ) (e : ℕ × S × R) → slice_get log place ≡ Some e → (slice_get (steps_of (pairs log)) place ≡ Some e.1) × (slice_get (replies_of (pairs log)) place ≡ Some e.2)
  has-at [] place e is = cc
  has-at (x ∷ xs) zero e is = let same = same_Some x e is in (ap (λ (y : ℕ × S × R). Some y.1) same, ap (λ (y : ℕ × S × R). Some y.2) same)
  has-at (x ∷ xs) (suc place) e is = has-at xs place e is

module _ {K V C H W X P F L T E S : Type 0} (eq : K → K → Bool) (is_clone : V → V → Type 0) (settings : Settings K V) (before : ℕ → List (AcceptedStep K V E))
    (log : List (ℕ × Step K V C H W X P F L T E S × Reply K V C H W X P F L T E S)) (keeps : K → V → Type 0) where
  abbrev Adds : Step K V C H W X P F L T E S → PassOf K V C H W X P F L T E S → PassOf K V C H W X P F L T E S → Receipt (Reply K V C H W X P F L T E S) → Type 0
  Adds step old new receipt = AddsReceipt (OneStep is_clone) (OneReply is_clone) step old new receipt

  abbrev Holds : ℕ → Step K V C H W X P F L T E S → Reply K V C H W X P F L T E S → Type 0
  Holds place step reply = Has (steps_of (pairs log)) (replies_of (pairs log)) place step reply

  -- what the history has of a call
  holds : (step : Step K V C H W X P F L T E S) (old new : PassOf K V C H W X P F L T E S) (receipt : Receipt (Reply K V C H W X P F L T E S)) (adds : Adds step old new receipt) → Stands log new.claims → Holds receipt.place adds.entry.1 adds.entry.2
  holds step old new receipt adds stands = has-at log receipt.place adds.entry (adds-claims (OneStep is_clone) (OneReply is_clone) step old new receipt adds log stands).1

  -- collects until one returns a value
  collected : (n : ℕ) (m : PassOf K V C H W X P F L T E S) (t : Named K) (v : V) (u : PassOf K V C H W X P F L T E S) → rounds.Collects (Collects is_clone keeps) n m t (Ready v) u → Stands log u.claims → (place : ℕ) → HasPlace m place
      → (q : ℕ) × (called : TurnName K) × (own : Entry K V) × (place < q) × Holds q (Collect called) (Entered own) × (name_by called ≡ name_by t.name) × SameUpToClones is_clone (entry_of own).value v × (u.number ≡ m.number) × Stands log m.claims
  collected zero m t v u (step, receipt, of_step, of_reply, adds) stands place at =
      let all = adds-claims (OneStep is_clone) (OneReply is_clone) step m u receipt adds log stands in
      let has = holds step m u receipt adds stands in
      let asks = collect-copy is_clone (name_by t.name) step adds.entry.1 of_step adds.of_step.0 in
      let gets = got is_clone v receipt.reply adds.entry.2 adds.stored.reply of_reply.0 adds.of_reply in (
        receipt.place,
        asks.0,
        gets.0,
        adds-above (OneStep is_clone) (OneReply is_clone) step m u receipt adds place at,
        (has.0 ∙ ap Some asks.1, has.1 ∙ ap Some gets.1),
        asks.2,
        gets.2,
        adds-number (OneStep is_clone) (OneReply is_clone) step m u receipt adds,
        all.0,
      )
  collected (suc n) m t v u (back, mid, (step, receipt, of_step, of_reply, adds), more) stands place at =
      let it = collected n mid back v u more stands place (adds-keeps (OneStep is_clone) (OneReply is_clone) step m mid receipt adds place at) in
      let all = adds-claims (OneStep is_clone) (OneReply is_clone) step m mid receipt adds log it.8 in
      (it.0, it.1, it.2, it.3, it.4, it.5 ∙ of_reply.0, it.6, it.7 ∙ adds-number (OneStep is_clone) (OneReply is_clone) step m mid receipt adds, all.0)

  -- the receipts stay
  collects-keep : (n : ℕ) (m : PassOf K V C H W X P F L T E S) (t : Named K) (b : Collected V (Named K)) (u : PassOf K V C H W X P F L T E S) → rounds.Collects (Collects is_clone keeps) n m t b u → (place : ℕ) → HasPlace m place → HasPlace u place
  collects-keep zero m t b u (step, receipt, of_step, of_reply, adds) place at = adds-keeps (OneStep is_clone) (OneReply is_clone) step m u receipt adds place at
  collects-keep (suc n) m t b u (back, mid, (step, receipt, of_step, of_reply, adds), more) place at = collects-keep n mid back b u more place (adds-keeps (OneStep is_clone) (OneReply is_clone) step m mid receipt adds place at)

  rounds-keep : (key : K) (now : ℕ) (n : ℕ) (old mid : PassOf K V C H W X P F L T E S) → rounds.Rounds (Begins is_clone keeps key now) (Collects is_clone keeps) n old mid → (place : ℕ) → HasPlace old place → HasPlace mid place
  rounds-keep key now zero old mid same place at = subst (λ p. HasPlace p place) (sym same) at
  rounds-keep key now (suc n) old mid (m, first, (t, next, (step, receipt, of_step, of_reply, adds), (k, more))) place at =
      collects-keep k next t Retry mid more place (adds-keeps (OneStep is_clone) (OneReply is_clone) step m next receipt adds place (rounds-keep key now n old m first place at))

  module _ (key : K) (now : ℕ) (old : PassOf K V C H W X P F L T E S) where
    abbrev Answers : PassOf K V C H W X P F L T E S → V → Type 0
    Answers new v = IsLiveOrFinishedAfter eq is_clone settings before log old new key now v

    -- a receipt that is added to what comes of the old pass is behind that
    added : (mid new : PassOf K V C H W X P F L T E S) (step : Step K V C H W X P F L T E S) (receipt : Receipt (Reply K V C H W X P F L T E S)) → ((place : ℕ) → HasPlace old place → HasPlace mid place) → Adds step mid new receipt → Each (λ (o : StoredReceipt (Step K V C H W X P F L T E S) (Reply K V C H W X P F L T E S)). o.place < receipt.place) old.receipts
    added mid new step receipt kept adds k o is = adds-above (OneStep is_clone) (OneReply is_clone) step mid new receipt adds o.place (kept o.place (k, o, is, refl))

    -- the begin of the history
    begin-is : (b : Step K V C H W X P F L T E S) (own : _) → b ≡ Begin own With None now → arc_value own ≡ key → IsBegin key now b
    begin-is b own is same = subst (IsBegin key now) (sym is) (same, refl, refl, refl)

    found-case : FindsLive eq settings before (steps_of (pairs log)) (replies_of (pairs log)) (SameUpToClones is_clone) → (mid new : PassOf K V C H W X P F L T E S) (v : V) → ((place : ℕ) → HasPlace old place → HasPlace mid place) → Begins is_clone keeps key now mid (begins.Found v) new → Stands log new.claims → Answers new v
    found-case finds mid new v kept (step, receipt, of_step, of_reply, adds) stands =
        let all = adds-claims (OneStep is_clone) (OneReply is_clone) step mid new receipt adds log stands in
        let has = holds step mid new receipt adds stands in
        let asks = begin-copy is_clone key now step adds.entry.1 of_step adds.of_step.0 in
        let gets = got is_clone v receipt.reply adds.entry.2 adds.stored.reply of_reply.0 adds.of_reply in
        let live = finds receipt.place asks.0 now gets.0 (has.0 ∙ ap Some asks.1, has.1 ∙ ap Some gets.1) in (
          receipt.place,
          adds.entry,
          all.1,
          adds.by ∙ sym (adds-number (OneStep is_clone) (OneReply is_clone) step mid new receipt adds),
          begin-is adds.entry.1 asks.0 asks.1 asks.2,
          (added mid new step receipt kept adds, adds-place (OneStep is_clone) (OneReply is_clone) step mid new receipt adds),
          inl (live.0, subst (λ k. live_at eq settings k now (events_in (before receipt.place)) ≡ Some live.0) asks.2 live.1, through live.0.value (entry_of gets.0).value v live.3 gets.2),
        )

    waits-case : CollectsFinished (steps_of (pairs log)) (replies_of (pairs log)) (SameUpToClones is_clone) → (mid new : PassOf K V C H W X P F L T E S) (v : V) → ((place : ℕ) → HasPlace old place → HasPlace mid place) → rounds.Waits (Begins is_clone keeps key now) (Collects is_clone keeps) mid (Some v) new → Stands log new.claims → Answers new v
    waits-case collects mid new v kept (t, m, (step, receipt, of_step, of_reply, adds), (n, more)) stands =
        let it = collected n m t v new more stands receipt.place (adds-place (OneStep is_clone) (OneReply is_clone) step mid m receipt adds) in
        let all = adds-claims (OneStep is_clone) (OneReply is_clone) step mid m receipt adds log it.8 in
        let has = holds step mid m receipt adds it.8 in
        let asks = begin-copy is_clone key now step adds.entry.1 of_step adds.of_step.0 in
        let waits = wait-of is_clone adds.entry.2 t.name (waits-back is_clone keeps key t receipt.reply adds.entry.2 adds.stored.reply of_reply adds.of_reply) in
        let ended = collects receipt.place it.0 adds.entry.1 waits.0 it.1 it.2 (has.0, has.1 ∙ ap Some waits.1) it.4 (ap (λ (x : Name K). x.number) it.5 ∙ sym waits.2) it.3 in (
          receipt.place,
          adds.entry,
          all.1,
          adds.by ∙ sym (it.7 ∙ adds-number (OneStep is_clone) (OneReply is_clone) step mid m receipt adds),
          begin-is adds.entry.1 asks.0 asks.1 asks.2,
          (added mid m step receipt kept adds, collects-keep n m t (Ready v) new more receipt.place (adds-place (OneStep is_clone) (OneReply is_clone) step mid m receipt adds)),
          inr (waits.0.number, subst (NamesTurn waits.0.number) (sym waits.1) refl, ended.1, ended.0, ended.2, ended.4, through ended.0 (entry_of it.2).value v ended.5 it.6),
        )

    runs-case : (mid last new : PassOf K V C H W X P F L T E S) (turn : Named K) (made v : V) → ((place : ℕ) → HasPlace old place → HasPlace mid place) → Begins is_clone keeps key now mid (begins.Run turn) last → Finishes is_clone keeps (name_by turn.name) made now v last new → Stands log new.claims → Answers new v
    runs-case mid last new turn made v kept (step, receipt, of_step, of_reply, adds) (is, (end, final, of_end, of_final, ends)) stands =
        let behind = adds-claims (OneStep is_clone) (OneReply is_clone) end last new final ends log stands in
        let all = adds-claims (OneStep is_clone) (OneReply is_clone) step mid last receipt adds log behind.0 in
        let has = holds end last new final ends stands in
        let asks = begin-copy is_clone key now step adds.entry.1 of_step adds.of_step.0 in
        let says = said-back is_clone keeps key turn receipt.reply adds.entry.2 adds.stored.reply of_reply adds.of_reply in
        let opens = run-of is_clone adds.entry.2 turn.name says.0 says.1 in
        let copy = finish-copy is_clone (name_by turn.name) made now end ends.entry.1 of_end ends.of_step.0 in
        let gets = got is_clone v final.reply ends.entry.2 ends.stored.reply of_final ends.of_reply in (
          receipt.place,
          adds.entry,
          all.1,
          adds.by ∙ sym (adds-number (OneStep is_clone) (OneReply is_clone) end last new final ends ∙ adds-number (OneStep is_clone) (OneReply is_clone) step mid last receipt adds),
          begin-is adds.entry.1 asks.0 asks.1 asks.2,
          (added mid last step receipt kept adds, adds-keeps (OneStep is_clone) (OneReply is_clone) end last new final ends receipt.place (adds-place (OneStep is_clone) (OneReply is_clone) step mid last receipt adds)),
          inr (
            opens.0.number,
            subst (NamesTurn opens.0.number) (sym opens.2) refl,
            final.place,
            copy.1,
            adds-above (OneStep is_clone) (OneReply is_clone) end last new final ends receipt.place (adds-place (OneStep is_clone) (OneReply is_clone) step mid last receipt adds),
            (copy.0, copy.2, ends.entry.2, copy.4 ∙ sym opens.3, (has.0 ∙ ap Some copy.3, has.1), subst (λ r. ¬ (IsRefusal r)) (sym gets.1) (λ no. no)),
            through copy.1 made v (original made copy.1 copy.5) (clone made v is),
          ),
        )

  pub returns : (IsMade : V → Type 0) → FindsLive eq settings before (steps_of (pairs log)) (replies_of (pairs log)) (SameUpToClones is_clone) → CollectsFinished (steps_of (pairs log)) (replies_of (pairs log)) (SameUpToClones is_clone) → ReturnsLiveOrFinished eq is_clone settings before log keeps IsMade
  returns IsMade finds collects old new closed more key now v (n, mid, few, done, ways) claims stand =
      let stands : Stands log new.claims = stands-front log new.claims more (subst (Stands log) claims stand.claims) in
      go stands ways
    where
      go : Stands log new.claims → ((Begins is_clone keeps key now mid (begins.Found v) new ⊎ rounds.Waits (Begins is_clone keeps key now) (Collects is_clone keeps) mid (Some v) new)
          ⊎ ((turn : Named K) × (last : PassOf K V C H W X P F L T E S) × (made : V)
          × Begins is_clone keeps key now mid (begins.Run turn) last × IsMade made × Finishes is_clone keeps (name_by turn.name) made now v last new)) → IsLiveOrFinishedAfter eq is_clone settings before log old new key now v
      go stands (inl (inl found)) = found-case key now old finds mid new v (rounds-keep key now n old mid done) found stands
      go stands (inl (inr waited)) = waits-case key now old collects mid new v (rounds-keep key now n old mid done) waited stands
      go stands (inr (turn, last, made, begun, is, ended)) = runs-case key now old mid last new turn made v (rounds-keep key now n old mid done) begun ended stands
