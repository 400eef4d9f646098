-- The result of collecting a ticket.
use Rattle.std.specs.Prelude.{⊤, ◌≡◌, Option, Some, None, Result, Ok, Err}
use Rattle.std.specs.declared.sync.Arc.{Arc}
use Rattle.std.specs.declared.alloc.Global.{Global}
use Rattle.moka_model.specs.Turns.{Turn, End}
use Rattle.moka_model.specs.Turns as turning
use Rattle.moka_model.specs.Calls.{ClonesAreInfallible, IsCopiedEnd}
use Rattle.moka_turns.specs.declared.handles.Ticket.{Ticket}
use Rattle.moka_turns.specs.declared.table.TurnEnd.{TurnEnd}
use Rattle.moka_turns.specs.declared.table.CollectState.{CollectState}
use Rattle.moka_turns.specs.declared.table.CollectState.TheVariants.{NotYet, Ended}
use Rattle.moka_policy.specs.declared.policy.Refused.TheVariants.{OutOfMemory, UnknownTicket}
use Rattle.moka_turns.specs.declared.handles.CollectRefused.{CollectRefused}
use Rattle.moka_turns.specs.Represents.{end_of}

-- Cloning this end can fail. Cloning a value of which `is_infallible` holds never does.
abbrev pub TakesCopy : {V E : Type 0} → (V → Type 0) → Option (End V E) → Type 0
TakesCopy is_infallible (Some (turning.Value v replaced)) = ¬ (is_infallible v)
TakesCopy is_infallible (Some (turning.Failed e)) = ⊤
TakesCopy is_infallible end = ⊥

-- An end is a clone of another one.
abbrev pub IsEndClone : {V E : Type 0} → (V → V → Type 0) → TurnEnd V E → TurnEnd V E → Type 0
IsEndClone is_clone end copy = IsCopiedEnd is_clone (Some (end_of end)) (Some (end_of copy))

module _ {K V E : Type 0} where
  -- The result of collecting a ticket, by the turn that has its name and an unspent ticket. Without one it is
  -- `UnknownTicket`. While the turn is open, it is `NotYet`. Once it has ended, it is a clone of its end, and `After`
  -- holds; or it is `OutOfMemory`, if cloning the kept clone of it can fail.
  abbrev pub IsTold : (V → V → Type 0) → (V → Type 0) → (Turn K V E → Type 0) → Option (Turn K V E) →
      Result (CollectState K V E) (CollectRefused K) → Type 0
  IsTold is_clone is_infallible After None (Err refused) = refused.cause ≡ UnknownTicket
  IsTold is_clone is_infallible After None (Ok told) = ⊥
  IsTold is_clone is_infallible After (Some t) (Err refused) =
      (refused.cause ≡ OutOfMemory) × TakesCopy (ClonesAreInfallible is_clone is_infallible) t.end
  IsTold is_clone is_infallible After (Some t) (Ok (NotYet ticket)) = t.end ≡ None
  IsTold is_clone is_infallible After (Some t) (Ok (Ended key end)) = IsCopiedEnd is_clone t.end (Some (end_of end)) × After t

  -- P holds of the ticket if the turn is open.
  abbrev pub IfNotYet : (Ticket K → Type 0) → CollectState K V E → Type 0
  IfNotYet P (NotYet ticket) = P ticket
  IfNotYet P (Ended key end) = ⊤

  -- P holds of the key if the turn has ended.
  abbrev pub IfEnded : (Arc K Global → Type 0) → CollectState K V E → Type 0
  IfEnded P (NotYet ticket) = ⊤
  IfEnded P (Ended key end) = P key

  -- The ticket was not spent.
  abbrev pub IsUnspent : Result (CollectState K V E) (CollectRefused K) → Type 0
  IsUnspent (Ok (Ended key end)) = ⊥
  IsUnspent told = ⊤
