-- How a `get_with` ends that opened a turn.
use Rattle.std.proofs.Common.{◌≡◌, ℕ, zero, suc, Some, Ok, Err, Result, IfOk, IfErr, sym, ap, ◌∙◌, subst, inl, inr}
use Rattle.std.specs.Arc.{arc_value}
use Rattle.moka_model.specs.Turns.{Name}
use Rattle.moka_turns.specs.declared.turn_name.TurnName.{TurnName}
use Rattle.moka_turns.specs.Handles.{name_by}
use Rattle.moka_state.specs.declared.step.Reply.{Reply}
use Rattle.moka_state.specs.declared.step.Reply.TheVariants as replies
use Rattle.moka_value_invariant.specs.Keeps.{IsCopied}
use Rattle.moka_single_flight.specs.declared.replies.Begun.TheVariants.{Found, Wait}
use Rattle.moka_single_flight.specs.declared.replies.Collected.TheVariants.{Ready}
use Rattle.moka_single_flight.specs.declared.replies.Joined.{Joined}
use Rattle.moka_single_flight.specs.declared.replies.Joined.TheVariants.{Turn, Value}
use Rattle.moka_single_flight.specs.Rounds.{Ends, Waits}
use Rattle.moka_single_flight.specs.Rounds as rounds
use Rattle.moka_recorded.specs.declared.named.Named.{Named}
use Rattle.moka_recorded.specs.declared.refused.GetWithRefused.{GetWithRefused}
use Rattle.moka_recorded.specs.Gets.{PassOf, IsBeginReply, Begins, Collects, Finishes, FinishRefused, Gets, GetsRefused}

module _ {K V C H W X P F L T E S : Type 0} (is_clone : V → V → Type 0) (keeps : K → V → Type 0) (key : K) (now : ℕ) (IsMade : V → Type 0) where
  -- with what it gave
  pub finished : (old mid new : PassOf K V C H W X P F L T E S) (turn : Named K) (made : V)
      (result : Result V (GetWithRefused K V C H W X P F L T E S)) (waited : Joined V (Named K)) → waited ≡ Turn turn
      → Ends (Begins is_clone keeps key now) (Collects is_clone keeps) (Some 200) old waited mid → IsMade made
      → IfOk result (λ v. Finishes is_clone keeps (name_by turn.name) made now v mid new) → IfOk result (λ v. Gets is_clone keeps key now IsMade old v new)
  finished old mid new turn made (Ok v) waited is ends by_init done =
      let e = subst (λ w. Ends (Begins is_clone keeps key now) (Collects is_clone keeps) (Some 200) old w mid) is ends in
      (e.0, e.1, e.2, e.3, inr (turn, mid, made, e.4, by_init, done))
  finished old mid new turn made (Err refused) waited is ends by_init done = tt

  -- or refused
  pub not_finished : (old mid new : PassOf K V C H W X P F L T E S) (turn : Named K) (made : V)
      (result : Result V (GetWithRefused K V C H W X P F L T E S)) (waited : Joined V (Named K)) → waited ≡ Turn turn
      → Ends (Begins is_clone keeps key now) (Collects is_clone keeps) (Some 200) old waited mid → IsMade made
      → IfErr result (λ refused. FinishRefused is_clone keeps (name_by turn.name) made now refused mid new)
      → IfErr result (λ refused. GetsRefused is_clone keeps key now IsMade old refused new)
  not_finished old mid new turn made (Ok v) waited is ends by_init done = tt
  not_finished old mid new turn made (Err refused) waited is ends by_init done =
      let e = subst (λ w. Ends (Begins is_clone keeps key now) (Collects is_clone keeps) (Some 200) old w mid) is ends in
      inr (inr (e.0, e.1, turn, mid, made, e.2, e.3, e.4, by_init, done))

-- What a `get_with` returns satisfies the invariant with its key.
module _ {K V C H W X P F L T E S : Type 0} (is_clone : V → V → Type 0) (keeps : K → V → Type 0) (key : K) (now : ℕ) where
  ticket-key : (ticket : Named K) (reply : Reply K V C H W X P F L T E S) → IsBeginReply keeps key (Wait ticket) reply → arc_value ticket.name.key ≡ key
  ticket-key ticket (replies.Wait name) (same, of) = ap (λ (n : TurnName K). arc_value n.key) (sym same) ∙ of.1
  ticket-key ticket reply is = absurd is

  -- a collected value does so with the key of the ticket
  collected-keeps : (n : ℕ) (s u : PassOf K V C H W X P F L T E S) (ticket : Named K) (v : V) → arc_value ticket.name.key ≡ key → rounds.Collects (Collects is_clone keeps) n s ticket (Ready v) u → keeps key v
  collected-keeps zero s u ticket v own (step, receipt, by, (entered, kept), adds) = subst (λ k. keeps k v) own kept
  collected-keeps (suc n) s u ticket v own (back, m, (step, receipt, by, (same, early), adds), rest) = collected-keeps n m u back v (ap (λ (name : Name K). name.key) same ∙ own) rest

  found-keeps : (s u : PassOf K V C H W X P F L T E S) (v : V) → Begins is_clone keeps key now s (Found v) u → keeps key v
  found-keeps s u v (step, receipt, by, (entered, kept), adds) = kept

  waited-keeps : (s u : PassOf K V C H W X P F L T E S) (v : V) → Waits (Begins is_clone keeps key now) (Collects is_clone keeps) s (Some v) u → keeps key v
  waited-keeps s u v (ticket, m, (step, receipt, by, reply, adds), (n, collects)) = collected-keeps n m u ticket v (ticket-key ticket receipt.reply reply) collects

  -- so does a value that the loop ends with
  pub joined-keeps : (s u : PassOf K V C H W X P F L T E S) (v : V) (waited : Joined V (Named K)) → waited ≡ Value v → Ends (Begins is_clone keeps key now) (Collects is_clone keeps) (Some 200) s waited u → keeps key v
  joined-keeps s u v waited is ends = go (subst (λ w. Ends (Begins is_clone keeps key now) (Collects is_clone keeps) (Some 200) s w u) is ends)
    where
      go : Ends (Begins is_clone keeps key now) (Collects is_clone keeps) (Some 200) s (Value v) u → keeps key v
      go (n, m, less, before, inl found) = found-keeps m u v found
      go (n, m, less, before, inr waits) = waited-keeps m u v waits

  -- and the value of a turn that is finished
  pub made-keeps : IsCopied keeps is_clone → (name : Name K) (made : V) (s u : PassOf K V C H W X P F L T E S) (result : Result V (GetWithRefused K V C H W X P F L T E S)) → keeps key made → IfOk result (λ v. Finishes is_clone keeps name made now v s u) → IfOk result (keeps key)
  made-keeps copied name made s u (Ok v) kept (cloned, does) = copied key made v cloned kept
  made-keeps copied name made s u (Err refused) kept done = tt
