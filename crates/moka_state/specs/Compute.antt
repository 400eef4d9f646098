-- The begin of a compute, and the results of computes.
use Rattle.std.specs.Prelude.{⊤, ◌≡◌, ℕ, Bool, true, false, Option, Some, None, List, Result, Ok, Err, OnOk, OnErr, IfSome}
use Rattle.std.specs.Prelude.{if◌then◌else◌}
use Rattle.std.specs.Arc.{arc_value}
use Rattle.moka_policy.specs.declared.policy.Refused.{Refused}
use Rattle.moka_model.specs.declared.turns.Kind.TheVariants.{Compute}
use Rattle.moka_model.specs.declared.comp_result.CompResult.{CompResult}
use Rattle.moka_model.specs.declared.comp_result.CompResult.TheVariants as results
use Rattle.moka_model.specs.Lives.{Settings}
use Rattle.moka_model.specs.Steps.{AcceptedStep}
use Rattle.moka_model.specs.Calls.{Call, IsCopyOf, entry_under, fresh_entry}
use Rattle.moka_model.specs.Calls as calls
use Rattle.moka_model.specs.Entries.{entry_of}
use Rattle.moka_rows.specs.declared.rows.Row.{Row}
use Rattle.moka_rows.specs.Rows.{row_under, IsRowOf}
use Rattle.moka_table.specs.LiveEntry.{FindsLive, IsEntryOfRow}
use Rattle.moka_table.specs.WriteSlot.{is_live_row}
use Rattle.moka_expiration.specs.StateData.{StateData}
use Rattle.moka_state.specs.declared.answers.BegunCompute.{BegunCompute}
use Rattle.moka_state.specs.declared.answers.BegunCompute.TheVariants as begins
use Rattle.moka_state.specs.declared.answers.ShownTurn.{ShownTurn}
use Rattle.moka_state.specs.declared.compute.Shown.{Shown}
use Rattle.moka_state.specs.Begin.{EntryKeeps}
use Rattle.moka_state.specs.Given.{FailsToBegin, Gives, of_begin_compute}

-- The lookup of a compute finds the row of a key whose value is live. It returns the entry and, with `keep`, a second
-- clone of the value. Or it finds none: the key has no row, or its value is not live.
abbrev pub IsShown : {K V : Type 0} → (K → K → Bool) → (V → V → Type 0) → Bool → K → ℕ → ℕ →
    List (ℕ × Row K V) → Option (Shown K V) → Type 0
IsShown {K} {V} eq is_clone keep key hash at rows (Some shown) =
    (row : Row K V) × (row_under shown.number rows ≡ Some row) × IsRowOf eq key hash row × (is_live_row at (Some row) ≡ true)
    × IsEntryOfRow is_clone row (entry_of shown.entry) × IsCopyOf is_clone (if keep then Some row.value else None) shown.saved
IsShown {K} {V} eq is_clone keep key hash at rows None = FindsLive eq key hash at rows None

-- The begin of a compute ends as `gives` says. If it succeeds, `follows` holds; if it fails, nothing has changed.
pub record ComputeBegins {K V H W X F E : Type 0} (gives : Result (calls.Reply K V E) Refused → Type 0) (follows : Type 0)
    (old new : StateData K V H W X F E) (result : Result (BegunCompute K V) Refused) : Type 0 where
  pub reply : gives (of_begin_compute result)
  pub stands : OnOk result follows
  pub refused : OnErr result (new ≡ old)

-- A begin that may not wait fails with `TurnIsOpen` exactly where it would have to wait. Any other result is the one of
-- the specification.
abbrev pub GivesAtOnce : {K V E : Type 0} → (K → K → Bool) → (V → V → Type 0) → (V → Type 0) → Settings K V →
    List (AcceptedStep K V E) → Call K V E → Bool → Result (calls.Reply K V E) Refused → Type 0
GivesAtOnce eq is_clone is_infallible settings steps call may_wait (Ok answer) =
    Gives eq is_clone is_infallible settings steps call (Ok answer)
GivesAtOnce eq is_clone is_infallible settings steps call may_wait (Err cause) =
    FailsToBegin eq is_clone is_infallible settings steps call may_wait cause

-- The result of the begin of a compute that never waits, as that of one that may.
abbrev pub as_begun_compute : {K V : Type 0} → Result (ShownTurn K V) Refused → Result (BegunCompute K V) Refused
as_begun_compute (Ok begun) = Ok (begins.Run begun.turn begun.shown)
as_begun_compute (Err cause) = Err cause

-- P if a ticket is returned.
abbrev pub IfWaits : {K V : Type 0} → Type 0 → BegunCompute K V → Type 0
IfWaits P (begins.Wait ticket) = P
IfWaits P begun = ⊤

-- The turn or the ticket that is returned is that of a compute, and has exactly this key.
abbrev pub IsCompute : {K V : Type 0} → K → BegunCompute K V → Type 0
IsCompute key (begins.Run turn entry) = (turn.key.kind ≡ Compute) × (arc_value turn.key.key ≡ key)
IsCompute key (begins.Wait ticket) = (ticket.key.kind ≡ Compute) × (arc_value ticket.key.key ≡ key)

-- The live value that is returned, if any, satisfies the invariant with the stored key.
abbrev pub ShownKeeps : {K V : Type 0} → (K → V → Type 0) → BegunCompute K V → Type 0
ShownKeeps keeps (begins.Run turn (Some entry)) = keeps (entry_of entry).key (entry_of entry).value
ShownKeeps keeps begun = ⊤

-- That value satisfies the invariant with the stored key, and with the key that was looked up.
abbrev pub ShownKeepsFor : {K V : Type 0} → (K → V → Type 0) → K → BegunCompute K V → Type 0
ShownKeepsFor keeps key (begins.Run turn shown) = IfSome shown (EntryKeeps keeps key)
ShownKeepsFor keeps key (begins.Wait ticket) = ⊤

-- The result of a compute that does nothing: the value that was saved, if one was.
abbrev pub IsLeft : {K V : Type 0} → K → Option V → CompResult K V → Type 0
IsLeft key None (results.StillNone own) = arc_value own ≡ key
IsLeft key (Some v) (results.Unchanged entry) = entry_of entry ≡ entry_under key v
IsLeft key saved result = ⊥

-- The result of a compute that removes: the live value that it removed, if there was one.
abbrev pub IsRemoved : {K V : Type 0} → K → Option V → CompResult K V → Type 0
IsRemoved key None (results.StillNone own) = arc_value own ≡ key
IsRemoved key (Some v) (results.Removed entry) = entry_of entry ≡ entry_under key v
IsRemoved key removed result = ⊥

-- The result of a compute that puts a value, by whether its begin found a live one.
abbrev pub IsPut : {K V : Type 0} → K → V → Bool → CompResult K V → Type 0
IsPut key v true (results.ReplacedWith entry) = entry_of entry ≡ fresh_entry key v true
IsPut key v false (results.Inserted entry) = entry_of entry ≡ fresh_entry key v false
IsPut key v shown result = ⊥
