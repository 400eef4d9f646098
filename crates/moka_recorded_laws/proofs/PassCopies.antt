-- What the history has of the calls of a pass.
use Rattle.std.proofs.Common.{◌≡◌, inl, inr, ℕ, zero, suc, ◌<◌, Option, Some, None, List, [], ◌∷◌, ◌++◌, refl, sym, ap, ◌∙◌, subst, slice_get}
use Rattle.std.specs.declared.sync.Arc.{Arc}
use Rattle.std.specs.declared.alloc.Global.{Global}
use Rattle.std.specs.Arc.{arc_value}
use Rattle.moka_model.specs.declared.entry.Entry.{Entry}
use Rattle.moka_model.specs.declared.turns.Kind.TheVariants.{With}
use Rattle.moka_model.specs.declared.turns.Outcome.TheVariants.{Value}
use Rattle.moka_model.specs.Entries.{entry_of}
use Rattle.moka_model.specs.Turns.{Name}
use Rattle.moka_turns.specs.declared.turn_name.TurnName.{TurnName}
use Rattle.moka_turns.specs.Handles.{name_by}
use Rattle.moka_state.specs.declared.step.Step.{Step}
use Rattle.moka_state.specs.declared.step.Step.TheVariants.{Begin, Finish, Collect}
use Rattle.moka_state.specs.declared.step.Reply.{Reply}
use Rattle.moka_state.specs.declared.step.Reply.TheVariants.{Entered, Run, Wait}
use Rattle.moka_state.specs.Recorded.{IsStepCopy, SameReply, OneReply}
use Rattle.moka_state.specs.Replies.{IsRefusal}
use Rattle.moka_single_flight.specs.declared.replies.Begun.TheVariants as begins
use Rattle.moka_recording.specs.declared.law.Claim.{Claim}
use Rattle.moka_recording.specs.declared.receipt.Receipt.{Receipt}
use Rattle.moka_recording.specs.History.{Stands, claim}
use Rattle.moka_recording.specs.Receipts.{PassData, AddsReceipt}
use Rattle.moka_recorded.specs.declared.named.Named.{Named}
use Rattle.moka_recorded.specs.Gets.{IsBegin, IsCollect, IsFinish, IsEntered, IsBeginReply}
use Rattle.moka_recorded_laws.specs.HistoryLaws.{SameUpToClones, clone, original, through}
use Rattle.moka_recorded_laws.specs.GetLaws.{HasPlace}
use Rattle.moka_recorded_laws.proofs.Copies.{value-copy, entered-of}

front : {A : Type 0} (xs ys : List A) (k : ℕ) (x : A) → slice_get xs k ≡ Some x → slice_get (xs ++ ys) k ≡ Some x
front [] ys k x is = cc
front (y ∷ xs) ys zero x is = is
front (y ∷ xs) ys (suc k) x is = front xs ys k x is

behind : {A : Type 0} (xs : List A) (x : A) → (k : ℕ) × (slice_get (xs ++ x ∷ []) k ≡ Some x)
behind [] x = (zero, refl)
behind (y ∷ xs) x = let it = behind xs x in (suc it.0, it.1)

module _ {S R : Type 0} where
  pub stands-front : (log : List (ℕ × S × R)) (cs more : List (Claim S R)) → Stands log (cs ++ more) → Stands log cs
  stands-front log cs more stands k c is = stands k c (front cs more k c is)

module _ {S R : Type 0} (one_step : S → S → S → Type 0) (one_reply : R → R → R → Type 0) (step : S) (old new : PassData S R) (receipt : Receipt R) (adds : AddsReceipt one_step one_reply step old new receipt) where
  pub adds-number : new.number ≡ old.number
  adds-number = ap (λ (p : PassData S R). p.number) adds.adds

  pub adds-claims : (log : List (ℕ × S × R)) → Stands log new.claims → Stands log old.claims × (slice_get log receipt.place ≡ Some adds.entry)
  adds-claims log stands =
      let all : Stands log (old.claims ++ claim receipt.place adds.entry ∷ []) = subst (λ (p : PassData S R). Stands log p.claims) adds.adds stands in
      let last = behind old.claims (claim receipt.place adds.entry) in
      (stands-front log old.claims (claim receipt.place adds.entry ∷ []) all, all last.0 (claim receipt.place adds.entry) last.1)

  pub adds-place : HasPlace new receipt.place
  adds-place = subst (λ (p : PassData S R). HasPlace p receipt.place) (sym adds.adds) (let last = behind old.receipts adds.stored in (last.0, adds.stored, last.1, adds.at))

  pub adds-keeps : (place : ℕ) → HasPlace old place → HasPlace new place
  adds-keeps place (k, o, is, at) = subst (λ (p : PassData S R). HasPlace p place) (sym adds.adds) (k, o, front old.receipts (adds.stored ∷ []) k o is, at)

  pub adds-above : (place : ℕ) → HasPlace old place → place < receipt.place
  adds-above place (k, o, is, at) = subst (λ p. p < receipt.place) at (adds.above k o is)

module _ {K V C H W X P F L T E S : Type 0} (is_clone : V → V → Type 0) where
  pub begin-copy : (key : K) (now : ℕ) (a b : Step K V C H W X P F L T E S) → IsBegin key now a → IsStepCopy is_clone a b → (own : Arc K Global) × (b ≡ Begin own With None now) × (arc_value own ≡ key)
  begin-copy key now (Begin k kind replace at) (Begin j sort says then) is same =
      (j, (λ i. Begin j ((same.1 ∙ is.1) i) ((same.2 ∙ is.2) i) ((same.3 ∙ is.3) i)), same.0 ∙ is.0)
  begin-copy key now (Begin k kind replace at) b is same = absurd same
  begin-copy key now a b is same = absurd is

  pub collect-copy : (name : Name K) (a b : Step K V C H W X P F L T E S) → IsCollect name a → IsStepCopy is_clone a b → (called : TurnName K) × (b ≡ Collect called) × (name_by called ≡ name)
  collect-copy name (Collect first) (Collect called) is same = (called, refl, same ∙ is)
  collect-copy name (Collect first) b is same = absurd same
  collect-copy name a b is same = absurd is

  pub finish-copy : (name : Name K) (made : V) (now : ℕ) (a b : Step K V C H W X P F L T E S) → IsFinish name made now a → IsStepCopy is_clone a b
      → (called : TurnName K) × (copy : V) × (at : ℕ) × (b ≡ Finish called (Value copy) at) × (called.number ≡ name.number) × is_clone made copy
  finish-copy name made now (Finish first (Value v) at) b is same =
      let it = value-copy is_clone first v at b same in
      (it.0, it.1, it.2, it.3, it.4 ∙ ap (λ (n : Name K). n.number) is.0, subst (λ x. is_clone x it.1) is.1 it.5)
  finish-copy name made now a b is same = absurd is

  same-back : (a b c : Reply K V C H W X P F L T E S) → OneReply is_clone a b c → SameReply is_clone b a
  same-back a b c (inl (returned, one, two, three)) = inl (returned, two, one)
  same-back a b c (inr (bad, same, other)) = inr (subst IsRefusal (sym same) bad, sym same)

  entered-is : (v : V) (a : Reply K V C H W X P F L T E S) → IsEntered v a → (entry : Entry K V) × (a ≡ Entered entry) × ((entry_of entry).value ≡ v)
  entered-is v (Entered entry) is = (entry, refl, is)
  entered-is v a is = absurd is

  -- the history has the value that was returned, up to clones
  pub got : (v : V) (a b c : Reply K V C H W X P F L T E S) → IsEntered v a → OneReply is_clone a b c → (own : Entry K V) × (b ≡ Entered own) × SameUpToClones is_clone (entry_of own).value v
  got v a b c is one =
      let it = entered-is v a is in
      let back = entered-of is_clone b it.0 (subst (SameReply is_clone b) it.1 (same-back a b c one)) in (
        back.0,
        back.2,
        subst (SameUpToClones is_clone (entry_of back.0).value) it.2
            (through (entry_of back.0).value back.1.value (entry_of it.0).value (original back.1.value (entry_of back.0).value back.3.1) (clone back.1.value (entry_of it.0).value back.4.1)),
      )

  module _ (keeps : K → V → Type 0) (key : K) where
    run-is : (turn : Named K) (a : Reply K V C H W X P F L T E S) → IsBeginReply keeps key (begins.Run turn) a → (shown : Option (Entry K V)) × (a ≡ Run turn.name shown)
    run-is turn (Run name shown) is = (shown, ap (λ n. Run n shown) is.0)
    run-is turn a is = absurd is

    wait-is : (turn : Named K) (a : Reply K V C H W X P F L T E S) → IsBeginReply keeps key (begins.Wait turn) a → a ≡ Wait turn.name
    wait-is turn (Wait name) is = ap Wait is.0
    wait-is turn a is = absurd is

    pub said-back : (turn : Named K) (a b c : Reply K V C H W X P F L T E S) → IsBeginReply keeps key (begins.Run turn) a → OneReply is_clone a b c → (shown : Option (Entry K V)) × SameReply is_clone b (Run turn.name shown)
    said-back turn a b c is one = let it = run-is turn a is in (it.0, subst (SameReply is_clone b) it.1 (same-back a b c one))

    pub waits-back : (turn : Named K) (a b c : Reply K V C H W X P F L T E S) → IsBeginReply keeps key (begins.Wait turn) a → OneReply is_clone a b c → SameReply is_clone b (Wait turn.name)
    waits-back turn a b c is one = subst (SameReply is_clone b) (wait-is turn a is) (same-back a b c one)
