-- The terms of the law about what a `get_with` of a recorded cache returned.
use Rattle.std.specs.Prelude.{◌≡◌, ◌⊎◌, ℕ, ◌<◌, Bool, Some, List, ◌++◌, slice_get}
use Rattle.moka_model.specs.Lives.{Settings, Write}
use Rattle.moka_model.specs.Steps.{AcceptedStep, events_in}
use Rattle.moka_model.specs.Calls.{live_at}
use Rattle.moka_state.specs.declared.step.Step.{Step}
use Rattle.moka_state.specs.declared.step.Reply.{Reply}
use Rattle.moka_state.specs.declared.step.Reply.TheVariants.{Run, Wait}
use Rattle.moka_state.specs.Recorded.{OneStep, OneReply}
use Rattle.moka_recording.specs.declared.law.Claim.{Claim}
use Rattle.moka_recording.specs.declared.receipt.StoredReceipt.{StoredReceipt}
use Rattle.moka_recording.specs.History.{Each}
use Rattle.moka_recording.specs.Receipts.{PassData, Stand, pairs}
use Rattle.moka_recorded.specs.Gets.{PassOf, IsBegin, Gets}
use Rattle.moka_recorded_laws.specs.HistoryLaws.{SameUpToClones, steps_of, replies_of}
use Rattle.moka_recorded_laws.specs.RunLaws.{IsFinishedAt}

module _ {K V C H W X P F L T E S : Type 0} where
  -- The reply opens the turn of this number, or tells the caller to wait for it.
  abbrev pub NamesTurn : ℕ → Reply K V C H W X P F L T E S → Type 0
  NamesTurn number (Run name shown) = name.number ≡ number
  NamesTurn number (Wait name) = name.number ≡ number
  NamesTurn number reply = ⊥

module _ {S R : Type 0} where
  -- The pass has a receipt of this place.
  abbrev pub HasPlace : PassData S R → ℕ → Type 0
  HasPlace pass place = (k : ℕ) × (o : StoredReceipt S R) × (slice_get pass.receipts k ≡ Some o) × (o.place ≡ place)

  -- The new pass has a receipt of this place, which is behind all places of the old one.
  abbrev pub IsAdded : PassData S R → PassData S R → ℕ → Type 0
  IsAdded old new place = Each (λ (o : StoredReceipt S R). o.place < place) old.receipts × HasPlace new place

-- Of a closed history with the numbers of the passes, and the accepted steps before each of its places.
module _ {K V C H W X P F L T E S : Type 0} (eq : K → K → Bool) (is_clone : V → V → Type 0) (settings : Settings K V)
    (before : ℕ → List (AcceptedStep K V E))
    (log : List (ℕ × Step K V C H W X P F L T E S × Reply K V C H W X P F L T E S)) where
  -- The value was live for the key, at this moment, just before this place.
  abbrev pub WasLive : ℕ → K → ℕ → V → Type 0
  WasLive place key now v =
      (w : Write K V) × (live_at eq settings key now (events_in (before place)) ≡ Some w)
      × SameUpToClones is_clone w.value v

  -- A turn that the reply names was finished with the value, after this place.
  abbrev pub WasFinishedAfter : ℕ → Reply K V C H W X P F L T E S → V → Type 0
  WasFinishedAfter place reply v =
      (number : ℕ) × NamesTurn number reply × (later : ℕ) × (made : V) × (place < later)
      × IsFinishedAt (steps_of (pairs log)) (replies_of (pairs log)) later number made
      × SameUpToClones is_clone made v

  -- A call that made `new` of the pass `old` began, at a place that is a receipt of its own, a turn of this key at this
  -- moment. The value was live at that begin, or it is the outcome of the turn that the begin opened or waited for, which
  -- was finished after the begin.
  abbrev pub IsLiveOrFinishedAfter : PassOf K V C H W X P F L T E S → PassOf K V C H W X P F L T E S → K → ℕ → V →
      Type 0
  IsLiveOrFinishedAfter old new key now v =
      (place : ℕ) × (e : ℕ × Step K V C H W X P F L T E S × Reply K V C H W X P F L T E S)
      × (slice_get log place ≡ Some e) × (e.0 ≡ new.number) × IsBegin key now e.1 × IsAdded old new place
      × (WasLive place key now v ⊎ WasFinishedAfter place e.2 v)

  -- So it is with what a `get_with` returned, in a pass whose history was closed. The pass may have more claims by then.
  abbrev pub ReturnsLiveOrFinished : (K → V → Type 0) → (V → Type 0) → Type 0
  ReturnsLiveOrFinished keeps IsMade =
      (old new closed : PassOf K V C H W X P F L T E S)
      (more : List (Claim (Step K V C H W X P F L T E S) (Reply K V C H W X P F L T E S))) (key : K) (now : ℕ) (v : V) →
      Gets is_clone keeps key now IsMade old v new → closed.claims ≡ new.claims ++ more
      → Stand (OneStep is_clone) (OneReply is_clone) log closed → IsLiveOrFinishedAfter old new key now v
