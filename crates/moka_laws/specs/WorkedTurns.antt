-- Settings and calls of the worked cases of turns. Keys, values and errors are numbers.
use Rattle.std.specs.Prelude.{ℕ, nat_eq, Bool, true, false, Option, Some, None, List, [], ◌∷◌, IsSomeAnd, option_map}
use Rattle.moka_model.specs.declared.turns.Kind.{Kind}
use Rattle.moka_model.specs.declared.turns.Kind.TheVariants.{With, Optionally, Try, Compute}
use Rattle.moka_model.specs.declared.turns.Op.{Op}
use Rattle.moka_model.specs.declared.turns.Op.TheVariants.{Nop, Put}
use Rattle.moka_model.specs.declared.turns.Op.TheVariants as ops
use Rattle.moka_model.specs.declared.turns.Outcome.TheVariants as outcomes
use Rattle.moka_model.specs.Lives.{Settings, no_lifetimes}
use Rattle.moka_model.specs.Turns.{Name}
use Rattle.moka_model.specs.Steps.{AcceptedStep, events_in}
use Rattle.moka_model.specs.Calls.{Call, Get, ContainsKey, Insert, Remove, TakeNotice, OrInsert, Begin, BeginCompute, Finish, Abandon}
use Rattle.moka_model.specs.Calls.{Collect, Leave, Reply, Entered, Run, Wait, Entry, accepted, reply_of, after, Invalidate, InvalidateAll}
use Rattle.moka_model.specs.Calls.{live_at}
use Rattle.moka_laws.specs.TurnLaws.{LeavesLive}

-- What calls return, in order; none if a call is rejected.
module _ {K V E : Type 0} (eq : K → K → Bool) (settings : Settings K V) where
  abbrev pub replies : List (Call K V E) → List (AcceptedStep K V E) → List (Option (Reply K V E))
  replies [] steps = []
  replies (call ∷ calls) steps = reply_of (accepted eq settings steps call) ∷ replies calls (after eq settings call steps)

-- The settings of the worked cases: LRU, without capacity and lifetimes.
abbrev pub plain : Settings ℕ ℕ
plain = record {
  time_to_live = None;
  time_to_idle = None;
  max_capacity = None;
  first_number = 0;
  supports_closures = true;
  flush_limit = None;
  behaviour = record { is_lru = true; hash = λ k. k; weight = λ k v. 1; lifetimes = no_lifetimes };
  frequency = λ notes hash. 0;
}

-- The name of a turn.
abbrev pub name_of : ℕ → Kind → ℕ → Name ℕ
name_of number kind k = record { number = number; kind = kind; key = k }

-- An entry.
abbrev pub entry : ℕ → ℕ → Bool → Bool → Entry ℕ ℕ
entry k v fresh replaced = record { key = k; value = v; fresh = fresh; replaced = replaced }

-- What calls return from nothing on.
abbrev pub replies_of : List (Call ℕ ℕ ℕ) → List (Option (Reply ℕ ℕ ℕ))
replies_of calls = replies nat_eq plain calls []

-- The result of a begin that opens a turn and finds nothing.
abbrev pub opened : ℕ → Kind → ℕ → Option (Reply ℕ ℕ ℕ)
opened number kind k = Some (Run (name_of number kind k) None)

-- The result of a begin of a compute that is shown a value.
abbrev pub shown : ℕ → ℕ → ℕ → Option (Reply ℕ ℕ ℕ)
shown number k v = Some (Run (name_of number Compute k) (Some (entry k v false false)))

-- The result of a begin that has to wait.
abbrev pub waits : ℕ → Kind → ℕ → Option (Reply ℕ ℕ ℕ)
waits number kind k = Some (Wait (name_of number kind k))

-- The result of a call that returns an entry.
abbrev pub entered : ℕ → ℕ → Bool → Bool → Option (Reply ℕ ℕ ℕ)
entered k v fresh replaced = Some (Entered (entry k v fresh replaced))

-- A turn is opened, waited for and finished; its value is removed, its ticket is spent, and another turn has another
-- number.
abbrev pub one_turn : List (Call ℕ ℕ ℕ)
one_turn =
    Begin 5 With None 0 ∷ Begin 5 With None 0 ∷ Get 5 0 ∷ Finish (name_of 0 With 5) (outcomes.Value 7) 0 ∷ Remove 5 0
    ∷ Collect (name_of 0 With 5) ∷ Collect (name_of 0 With 5) ∷ Begin 5 With None 0 ∷ []

-- Two kinds of one key have separate turns.
abbrev pub two_kinds : List (Call ℕ ℕ ℕ)
two_kinds =
    Begin 5 With None 0 ∷ Begin 5 With None 0 ∷ Begin 5 Try None 0 ∷ Finish (name_of 1 Try 5) (outcomes.Failed 9) 0
    ∷ Collect (name_of 0 With 5) ∷ Finish (name_of 0 With 5) (outcomes.Value 7) 0 ∷ Collect (name_of 0 With 5) ∷ []

-- An abandoned turn gives its ticket no value.
abbrev pub abandoned : List (Call ℕ ℕ ℕ)
abandoned = Begin 5 With None 0 ∷ Begin 5 With None 0 ∷ Abandon (name_of 0 With 5) ∷ Collect (name_of 0 With 5) ∷ Begin 5 With None 0 ∷ []

-- Four computes of one key, one of which is waited for.
abbrev pub computes : List (Call ℕ ℕ ℕ)
computes =
    BeginCompute 5 true 0 ∷ Finish (name_of 0 Compute 5) (outcomes.Op (Put 1)) 0
    ∷ BeginCompute 5 true 0 ∷ Finish (name_of 2 Compute 5) (outcomes.Op (Put 2)) 0
    ∷ BeginCompute 5 true 0 ∷ Finish (name_of 4 Compute 5) (outcomes.Op ops.Remove) 0 ∷ ContainsKey 5 0
    ∷ BeginCompute 5 true 0 ∷ BeginCompute 5 true 0 ∷ Finish (name_of 5 Compute 5) (outcomes.Op Nop) 0 ∷ Collect (name_of 5 Compute 5) ∷ []

-- A value that is turned down is replaced.
abbrev pub turned_down : List (Call ℕ ℕ ℕ)
turned_down =
    Insert 1 30 0 ∷ Begin 1 With (Some true) 0 ∷ Finish (name_of 1 With 1) (outcomes.Value 31) 0
    ∷ Begin 1 With (Some false) 0 ∷ TakeNotice ∷ []

-- An `or_insert` that inserts and one that finds, and computes that do nothing, without and with a kept value.
abbrev pub others : List (Call ℕ ℕ ℕ)
others =
    OrInsert 1 3 0 ∷ OrInsert 1 6 0 ∷ BeginCompute 1 false 0 ∷ Finish (name_of 1 Compute 1) (outcomes.Op Nop) 0 ∷ BeginCompute 1 true 0
    ∷ Finish (name_of 2 Compute 1) (outcomes.Op Nop) 0 ∷ Finish (name_of 2 Compute 1) (outcomes.Op Nop) 0 ∷ Leave (name_of 2 Compute 1) ∷ []

-- A value is written at the moment 0,
abbrev pub stored_at_0 : List (AcceptedStep ℕ ℕ ℕ)
stored_at_0 = after nat_eq plain (Insert 1 30 0) []

-- and a compute begins at 5.
abbrev pub begun_at_5 : List (AcceptedStep ℕ ℕ ℕ)
begun_at_5 = after nat_eq plain (BeginCompute 1 true 5) stored_at_0

-- When the live value of key 1 was last accessed, after some steps, for a call at 5.
abbrev pub accessed : List (AcceptedStep ℕ ℕ ℕ) → Option ℕ
accessed steps = option_map (λ w. w.last_accessed) (live_at nat_eq plain 1 5 (events_in steps))

-- That begin, at 5 after some steps, is accepted and leaves the value of key 1 live.
abbrev pub LeavesLiveAt5 : Settings ℕ ℕ → List (AcceptedStep ℕ ℕ ℕ) → Type 0
LeavesLiveAt5 settings steps = IsSomeAnd (accepted nat_eq settings steps (BeginCompute 1 true 5)) (LeavesLive nat_eq settings steps 1 5)

-- A hit gives each entry a lifetime of 0.
abbrev pub one_hit : Settings ℕ ℕ
one_hit = record plain { behaviour = record plain.behaviour { lifetimes = record no_lifetimes { read = λ k v at left written. Some 0 } } }

-- A value is written at 0, and a compute at 5 does this.
abbrev pub computed_at_5 : Op ℕ → List (Call ℕ ℕ ℕ)
computed_at_5 op = Insert 1 30 0 ∷ BeginCompute 1 true 5 ∷ Finish (name_of 1 Compute 1) (outcomes.Op op) 5 ∷ []

-- What the last of some calls returns; none if it is rejected.
abbrev pub last_reply : {A : Type 0} → List (Option A) → Option A
last_reply [] = None
last_reply (reply ∷ []) = reply
last_reply (reply ∷ next ∷ more) = last_reply (next ∷ more)

-- A caller waits for a turn whose value replaces a live one.
abbrev pub replaced : List (Call ℕ ℕ ℕ)
replaced =
    Insert 1 30 0 ∷ Begin 1 With (Some true) 0 ∷ Begin 1 With (Some true) 0 ∷ Finish (name_of 1 With 1) (outcomes.Value 31) 0
    ∷ Collect (name_of 1 With 1) ∷ []

-- Of three computes of key 5, what the finish returns. Another call comes between begin and finish: it stores 8,
abbrev pub stored_meanwhile : Op ℕ → Option (Reply ℕ ℕ ℕ)
stored_meanwhile op =
    last_reply (replies nat_eq plain (BeginCompute 5 true 0 ∷ Insert 5 8 0 ∷ Finish (name_of 0 Compute 5) (outcomes.Op op) 0 ∷ []) [])

-- or invalidates 8, which the begin found,
abbrev pub invalidated_meanwhile : Op ℕ → Option (Reply ℕ ℕ ℕ)
invalidated_meanwhile op =
    last_reply (replies nat_eq plain (Insert 5 8 0 ∷ BeginCompute 5 true 0 ∷ Invalidate 5 0
    ∷ Finish (name_of 1 Compute 5) (outcomes.Op op) 0 ∷ []) [])

-- or stores 7 over it.
abbrev pub overwritten_meanwhile : Op ℕ → Option (Reply ℕ ℕ ℕ)
overwritten_meanwhile op =
    last_reply (replies nat_eq plain (Insert 5 8 0 ∷ BeginCompute 5 true 0 ∷ Insert 5 7 0
    ∷ Finish (name_of 1 Compute 5) (outcomes.Op op) 0 ∷ []) [])

-- A TTL of 10 ns.
abbrev pub short_lived : Settings ℕ ℕ
short_lived = record plain { time_to_live = Some 10 }

-- Where a value expired, a compute begins and puts another.
abbrev pub begun_expired : List (Call ℕ ℕ ℕ)
begun_expired = Insert 1 30 0 ∷ BeginCompute 1 true 10 ∷ Finish (name_of 1 Compute 1) (outcomes.Op (Put 31)) 10 ∷ []

-- Where a value is invalidated, a compute begins.
abbrev pub begun_hidden : List (Call ℕ ℕ ℕ)
begun_hidden = Insert 1 30 0 ∷ InvalidateAll ∷ BeginCompute 1 true 0 ∷ []
