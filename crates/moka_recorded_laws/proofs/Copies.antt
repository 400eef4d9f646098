-- Of which steps and replies a history has clones.
use Rattle.std.proofs.Common.{◌≡◌, inl, inr, ℕ, zero, suc, Bool, Option, Some, List, [], ◌∷◌, refl, sym, ap, subst, option_map, slice_get}
use Rattle.std.specs.declared.sync.Arc.{Arc}
use Rattle.std.specs.declared.alloc.Global.{Global}
use Rattle.std.specs.Arc.{arc_value}
use Rattle.std.proofs.lemmas.Option.{same_Some}
use Rattle.moka_model.specs.declared.entry.Entry.{Entry}
use Rattle.moka_model.specs.declared.comp_result.CompResult.TheVariants as results
use Rattle.moka_model.specs.declared.turns.Kind.{Kind}
use Rattle.moka_model.specs.declared.turns.Outcome.{Outcome}
use Rattle.moka_model.specs.declared.turns.Outcome.TheVariants.{Value}
use Rattle.moka_model.specs.Entries.{entry_of}
use Rattle.moka_model.specs.Turns.{Name}
use Rattle.moka_model.specs.Calls as calls
use Rattle.moka_model.specs.Calls.{IsCopiedEntry}
use Rattle.moka_turns.specs.declared.turn_name.TurnName.{TurnName}
use Rattle.moka_turns.specs.Handles.{name_by}
use Rattle.moka_state.specs.declared.step.Step.{Step}
use Rattle.moka_state.specs.declared.step.Step.TheVariants.{Begin, Finish, Collect}
use Rattle.moka_state.specs.declared.step.Reply.{Reply}
use Rattle.moka_state.specs.declared.step.Reply.TheVariants.{Noticed, Entered, Run, Wait, Computed, Refused, PredicateRefused}
use Rattle.moka_state.specs.Recorded.{IsStepCopy, IsSaid, SameReply, AreRecords}
use Rattle.moka_state.specs.Replies.{IsRefusal}
use Rattle.moka_recorded_laws.specs.HistoryLaws.{steps_of, replies_of}
use Rattle.moka_recorded_laws.specs.RunLaws.{Has}
use Rattle.moka_recorded_laws.proofs.Moves.{of-run, of-wait, of-entered}

module _ {K V C H W X P F L T E S : Type 0} (is_clone : V → V → Type 0) where
  -- the original of a begin, of a collect, of a finish
  pub begin-of : (a : Step K V C H W X P F L T E S) (key : Arc K Global) (kind : Kind) (replace : Option Bool) (now : ℕ) → IsStepCopy is_clone a (Begin key kind replace now) → (own : Arc K Global) × (a ≡ Begin own kind replace now) × (arc_value own ≡ arc_value key)
  begin-of (Begin own sort says at) key kind replace now is =
      let same : Begin own kind replace now ≡ Begin own sort says at = λ i. Begin own (is.1 i) (is.2 i) (is.3 i) in
      (own, sym same, sym is.0)
  begin-of a key kind replace now is = absurd is

  pub collect-of : (a : Step K V C H W X P F L T E S) (called : TurnName K) → IsStepCopy is_clone a (Collect called) → (own : TurnName K) × (a ≡ Collect own) × (own.number ≡ called.number)
  collect-of (Collect own) called is = (own, refl, sym (ap (λ (n : Name K). n.number) is))
  collect-of a called is = absurd is

  pub finish-of : (a : Step K V C H W X P F L T E S) (called : TurnName K) (outcome : Outcome V (Arc E Global)) (now : ℕ) → IsStepCopy is_clone a (Finish called outcome now) → (own : TurnName K) × (first : Outcome V (Arc E Global)) × (at : ℕ) × (a ≡ Finish own first at) × (own.number ≡ called.number)
  finish-of (Finish own first at) called outcome now is = (own, first, at, refl, sym (ap (λ (n : Name K). n.number) is.0))
  finish-of a called outcome now is = absurd is

  -- the clone of a finish with a value
  pub value-copy : (name : TurnName K) (made : V) (now : ℕ) (b : Step K V C H W X P F L T E S) → IsStepCopy is_clone (Finish name (Value made) now) b → (called : TurnName K) × (copy : V) × (at : ℕ) × (b ≡ Finish called (Value copy) at) × (called.number ≡ name.number) × is_clone made copy
  value-copy name made now (Finish called (Value copy) at) is = (called, copy, at, refl, ap (λ (n : Name K). n.number) is.0, is.1)
  value-copy name made now (Finish called outcome at) is = absurd is.1
  value-copy name made now b is = absurd is

  -- a reply that is said is no failure
  said-fine : (returned : calls.Reply K V E) (a : Reply K V C H W X P F L T E S) → IsSaid is_clone returned a → IsRefusal a → ⊥
  said-fine returned (Refused cause) is bad = is
  said-fine returned (PredicateRefused cause) is bad = is
  said-fine returned a is bad = bad

  pub fine-copy : (a b : Reply K V C H W X P F L T E S) → SameReply is_clone a b → ¬ (IsRefusal a) → ¬ (IsRefusal b)
  fine-copy a b (inl (returned, one, other)) fine bad = said-fine returned b other bad
  fine-copy a b (inr (failed, same)) fine bad = fine failed

  pub fine-of : (a b : Reply K V C H W X P F L T E S) → SameReply is_clone a b → ¬ (IsRefusal b) → ¬ (IsRefusal a)
  fine-of a b (inl (returned, one, other)) fine bad = said-fine returned a one bad
  fine-of a b (inr (failed, same)) fine bad = fine (subst IsRefusal (sym same) failed)

  -- how it is said that a turn was opened, or is waited for, or what an entry is
  said-run : (name : Name K) (own : Option (calls.Entry K V)) (a : Reply K V C H W X P F L T E S) → IsSaid is_clone (calls.Run name own) a → (called : TurnName K) × (shown : Option (Entry K V)) × (a ≡ Run called shown) × (name_by called ≡ name)
  said-run name own (Run called shown) is = (called, shown, refl, is.0)
  said-run name own (Noticed n) is = absurd is
  said-run name own (Refused cause) is = absurd is
  said-run name own (PredicateRefused cause) is = absurd is
  said-run name own (Computed (results.StillNone key)) is = cc
  said-run name own (Computed (results.Unchanged entry)) is = cc
  said-run name own (Computed (results.Inserted entry)) is = cc
  said-run name own (Computed (results.ReplacedWith entry)) is = cc
  said-run name own (Computed (results.Removed entry)) is = cc
  said-run name own a is = cc

  said-wait : (name : Name K) (a : Reply K V C H W X P F L T E S) → IsSaid is_clone (calls.Wait name) a → (called : TurnName K) × (a ≡ Wait called) × (name_by called ≡ name)
  said-wait name (Wait called) is = let same : name_by called ≡ name = cc in (called, refl, same)
  said-wait name (Noticed n) is = absurd is
  said-wait name (Refused cause) is = absurd is
  said-wait name (PredicateRefused cause) is = absurd is
  said-wait name (Computed (results.StillNone key)) is = cc
  said-wait name (Computed (results.Unchanged entry)) is = cc
  said-wait name (Computed (results.Inserted entry)) is = cc
  said-wait name (Computed (results.ReplacedWith entry)) is = cc
  said-wait name (Computed (results.Removed entry)) is = cc
  said-wait name a is = cc

  said-entered : (e : calls.Entry K V) (a : Reply K V C H W X P F L T E S) → IsSaid is_clone (calls.Entered e) a → (entry : Entry K V) × (a ≡ Entered entry) × IsCopiedEntry is_clone e (entry_of entry)
  said-entered e (Entered entry) is = (entry, refl, is)
  said-entered e (Noticed n) is = absurd is
  said-entered e (Refused cause) is = absurd is
  said-entered e (PredicateRefused cause) is = absurd is
  said-entered e (Computed (results.StillNone key)) is = cc
  said-entered e (Computed (results.Unchanged entry)) is = cc
  said-entered e (Computed (results.Inserted entry)) is = cc
  said-entered e (Computed (results.ReplacedWith entry)) is = cc
  said-entered e (Computed (results.Removed entry)) is = cc
  said-entered e a is = cc

  -- the original of such a reply
  pub run-of : (a : Reply K V C H W X P F L T E S) (name : TurnName K) (shown : Option (Entry K V)) → SameReply is_clone a (Run name shown) → (own : TurnName K) × (first : Option (Entry K V)) × (a ≡ Run own first) × (own.number ≡ name.number)
  run-of a name shown (inl (returned, one, other)) =
      let is = of-run is_clone returned (name_by name) (option_map entry_of shown) other in
      let it = said-run (name_by name) is.0 a (subst (λ r. IsSaid is_clone r a) is.1 one) in
      (it.0, it.1, it.2, ap (λ (n : Name K). n.number) it.3)
  run-of a name shown (inr (failed, same)) = absurd (subst IsRefusal (sym same) failed)

  pub wait-of : (a : Reply K V C H W X P F L T E S) (name : TurnName K) → SameReply is_clone a (Wait name) → (own : TurnName K) × (a ≡ Wait own) × (own.number ≡ name.number)
  wait-of a name (inl (returned, one, other)) =
      let is = of-wait is_clone returned (name_by name) other in
      let it = said-wait (name_by name) a (subst (λ r. IsSaid is_clone r a) is one) in
      (it.0, it.1, ap (λ (n : Name K). n.number) it.2)
  wait-of a name (inr (failed, same)) = absurd (subst IsRefusal (sym same) failed)

  pub entered-of : (a : Reply K V C H W X P F L T E S) (entry : Entry K V) → SameReply is_clone a (Entered entry) → (own : Entry K V) × (e : calls.Entry K V) × (a ≡ Entered own) × IsCopiedEntry is_clone e (entry_of own) × IsCopiedEntry is_clone e (entry_of entry)
  entered-of a entry (inl (returned, one, other)) =
      let is = of-entered is_clone returned (entry_of entry) other in
      let it = said-entered is.0 a (subst (λ r. IsSaid is_clone r a) is.1 one) in
      (it.0, is.0, it.1, it.2, is.2)
  entered-of a entry (inr (failed, same)) = absurd (subst IsRefusal (sym same) failed)

  -- what is at a place of the run, for a place of the history
  pub said-at : (done history : List (Step K V C H W X P F L T E S × Reply K V C H W X P F L T E S)) → AreRecords is_clone done history → (place : ℕ) (reply : Reply K V C H W X P F L T E S) → slice_get (replies_of history) place ≡ Some reply
      → (told : Reply K V C H W X P F L T E S) × (slice_get (replies_of done) place ≡ Some told) × SameReply is_clone told reply
  said-at [] [] are place reply is = cc
  said-at [] (h ∷ hs) are place reply is = absurd are
  said-at (d ∷ ds) [] are place reply is = cc
  said-at (d ∷ ds) (h ∷ hs) are zero reply is = (d.1, refl, subst (SameReply is_clone d.1) (same_Some h.1 reply is) are.1)
  said-at (d ∷ ds) (h ∷ hs) are (suc place) reply is = said-at ds hs are.2 place reply is

  pub done-at : (done history : List (Step K V C H W X P F L T E S × Reply K V C H W X P F L T E S)) → AreRecords is_clone done history → (place : ℕ) (step : Step K V C H W X P F L T E S) (reply : Reply K V C H W X P F L T E S) → Has (steps_of history) (replies_of history) place step reply
      → (own : Step K V C H W X P F L T E S) × (told : Reply K V C H W X P F L T E S) × Has (steps_of done) (replies_of done) place own told × IsStepCopy is_clone own step × SameReply is_clone told reply
  done-at [] [] are place step reply has = let no = has.0 in cc
  done-at [] (h ∷ hs) are place step reply has = absurd are
  done-at (d ∷ ds) [] are place step reply has = let no = has.0 in cc
  done-at (d ∷ ds) (h ∷ hs) are zero step reply has = (d.0, d.1, (refl, refl), subst (IsStepCopy is_clone d.0) (same_Some h.0 step has.0) are.0, subst (SameReply is_clone d.1) (same_Some h.1 reply has.1) are.1)
  done-at (d ∷ ds) (h ∷ hs) are (suc place) step reply has = done-at ds hs are.2 place step reply has

  -- and the other way round
  pub kept-at : (done history : List (Step K V C H W X P F L T E S × Reply K V C H W X P F L T E S)) → AreRecords is_clone done history → (place : ℕ) (step : Step K V C H W X P F L T E S) (reply : Reply K V C H W X P F L T E S) → Has (steps_of done) (replies_of done) place step reply
      → (copy : Step K V C H W X P F L T E S) × (told : Reply K V C H W X P F L T E S) × Has (steps_of history) (replies_of history) place copy told × IsStepCopy is_clone step copy × SameReply is_clone reply told
  kept-at [] [] are place step reply has = let no = has.0 in cc
  kept-at [] (h ∷ hs) are place step reply has = absurd are
  kept-at (d ∷ ds) [] are place step reply has = absurd are
  kept-at (d ∷ ds) (h ∷ hs) are zero step reply has = (h.0, h.1, (refl, refl), subst (λ x. IsStepCopy is_clone x h.0) (same_Some d.0 step has.0) are.0, subst (λ x. SameReply is_clone x h.1) (same_Some d.1 reply has.1) are.1)
  kept-at (d ∷ ds) (h ∷ hs) are (suc place) step reply has = kept-at ds hs are.2 place step reply has
