-- The begin of a compute by the specification, and the results of its end.
use Rattle.std.proofs.Common.{◌≡◌, ◌≢◌, ℕ, ◌==◌, not, ◌&&◌, Bool, true, false, cond, is_some, is_none, option_map, Option, Some, None, List, [], ◌∷◌, refl, sym, ap, ◌∙◌, subst, arith}
use Rattle.std.specs.Prelude.{Result, Ok, Err, IsSomeAnd}
use Rattle.std.specs.Arc.{arc_value}
use Rattle.std.proofs.lemmas.Bool.{and_parts}
use Rattle.moka_model.specs.declared.turns.Kind.{Kind}
use Rattle.moka_model.specs.declared.turns.Kind.TheVariants.{Compute}
use Rattle.moka_model.specs.declared.turns.Op.TheVariants as ops
use Rattle.moka_model.specs.declared.comp_result.CompResult.{CompResult}
use Rattle.moka_model.specs.declared.comp_result.CompResult.TheVariants as results
use Rattle.moka_model.specs.Lives.{Settings, Write}
use Rattle.moka_model.specs.Events.{Event, Looked, Passed, Drawn}
use Rattle.moka_model.specs.Numbers.{next_number, greatest_number}
use Rattle.moka_model.specs.Turns.{Turn, Name, Opened, Waited, AreApart, found, is_open_for, same_kind}
use Rattle.moka_model.specs.Steps.{AcceptedStep, events_in, turns}
use Rattle.moka_model.specs.Calls.{Reply, BeginCompute, Run, Wait, StillNone, begun_compute, live_at, accepted, after, with_step, entry_of, entry_under, fresh_entry, put_by, removed_by, kept_by, IsCopiedReply, IsCopyOf, IsCopiedEntry, IsEntryOf, WantsNumber}
use Rattle.moka_model.specs.Calls as calls
use Rattle.moka_model.specs.Entries as entries_of
use Rattle.moka_model.specs.CompResults.{of_computed}
use Rattle.moka_model.proofs.Callers.{found-is, same_kind-is}
use Rattle.moka_policy.specs.declared.policy.Refused.{Refused}
use Rattle.moka_policy.specs.declared.policy.Refused.TheVariants as causes
use Rattle.moka_turns.specs.declared.turn_key.TurnKey.{TurnKey}
use Rattle.moka_turns.specs.declared.table.OpenTurn.{OpenTurn}
use Rattle.moka_turns.specs.declared.table.EndedTurn.{EndedTurn}
use Rattle.moka_turns.specs.Begun.{IsBegun}
use Rattle.moka_turns.specs.Represents.{Represents, IsOpenRow}
use Rattle.moka_turns.proofs.Opens.{none-agree}
use Rattle.moka_state.specs.Compute.{IsLeft, IsRemoved, IsPut}
use Rattle.moka_state.specs.Finish.{IsComputed}
use Rattle.moka_state.specs.Given.{Gives}
use Rattle.moka_state.proofs.Begins.{found-numbered}
use Rattle.moka_state.proofs.Turns.{gives-accepted}

-- The result of a compute is that of the specification, with the turn's key.
module _ {K V : Type 0} (is_clone : V → V → Type 0) (key : K) where
  copied-entry : (a e x : calls.Entry K V) → x ≡ e → IsCopiedEntry is_clone a e → IsCopiedEntry is_clone a x
  copied-entry a e x is copied = subst (λ (y : calls.Entry K V). IsCopiedEntry is_clone a y) (sym is) copied

  pub left-answer : (E : Type 0) (name : Name K) → key ≡ name.key → (kept copy : Option V) → IsCopyOf is_clone kept copy → (result : CompResult K V) → IsLeft key copy result → IsCopiedReply is_clone (kept_by {E = E} name kept) (of_computed result)
  left-answer E name keyed None None copied (results.StillNone own) is = ap (λ k. let a : Reply K V E = StillNone k in a) (is ∙ keyed)
  left-answer E name keyed None None copied (results.Unchanged entry) is = absurd is
  left-answer E name keyed None None copied (results.Inserted entry) is = absurd is
  left-answer E name keyed None None copied (results.ReplacedWith entry) is = absurd is
  left-answer E name keyed None None copied (results.Removed entry) is = absurd is
  left-answer E name keyed None (Some w) copied result is = absurd copied
  left-answer E name keyed (Some v) None copied result is = absurd copied
  left-answer E name keyed (Some v) (Some w) copied (results.StillNone own) is = absurd is
  left-answer E name keyed (Some v) (Some w) copied (results.Unchanged entry) is = copied-entry (entry_under name.key v) (entry_under key w) (entries_of.entry_of entry) is (keyed, copied, refl, refl)
  left-answer E name keyed (Some v) (Some w) copied (results.Inserted entry) is = absurd is
  left-answer E name keyed (Some v) (Some w) copied (results.ReplacedWith entry) is = absurd is
  left-answer E name keyed (Some v) (Some w) copied (results.Removed entry) is = absurd is

  pub left-given : (own : K) → key ≡ own → (copy : Option V) (result : CompResult K V) → IsLeft key copy result → IsComputed is_clone own ops.Nop result
  left-given own keyed None (results.StillNone k) is = is ∙ keyed
  left-given own keyed None (results.Unchanged entry) is = absurd is
  left-given own keyed None (results.Inserted entry) is = absurd is
  left-given own keyed None (results.ReplacedWith entry) is = absurd is
  left-given own keyed None (results.Removed entry) is = absurd is
  left-given own keyed (Some w) (results.StillNone k) is = absurd is
  left-given own keyed (Some w) (results.Unchanged entry) is = ap (λ (x : calls.Entry K V). x.key) is ∙ keyed
  left-given own keyed (Some w) (results.Inserted entry) is = absurd is
  left-given own keyed (Some w) (results.ReplacedWith entry) is = absurd is
  left-given own keyed (Some w) (results.Removed entry) is = absurd is

  pub removed-answer : (E : Type 0) (name : Name K) → key ≡ name.key → (live : Option (Write K V)) (copy : Option V) → IsCopyOf is_clone (option_map (λ w. w.value) live) copy → (result : CompResult K V) → IsRemoved key copy result → IsCopiedReply is_clone (removed_by {E = E} name live) (of_computed result)
  removed-answer E name keyed None None copied (results.StillNone own) is = ap (λ k. let a : Reply K V E = StillNone k in a) (is ∙ keyed)
  removed-answer E name keyed None None copied (results.Unchanged entry) is = absurd is
  removed-answer E name keyed None None copied (results.Inserted entry) is = absurd is
  removed-answer E name keyed None None copied (results.ReplacedWith entry) is = absurd is
  removed-answer E name keyed None None copied (results.Removed entry) is = absurd is
  removed-answer E name keyed None (Some w) copied result is = absurd copied
  removed-answer E name keyed (Some v) None copied result is = absurd copied
  removed-answer E name keyed (Some v) (Some w) copied (results.StillNone own) is = absurd is
  removed-answer E name keyed (Some v) (Some w) copied (results.Unchanged entry) is = absurd is
  removed-answer E name keyed (Some v) (Some w) copied (results.Inserted entry) is = absurd is
  removed-answer E name keyed (Some v) (Some w) copied (results.ReplacedWith entry) is = absurd is
  removed-answer E name keyed (Some v) (Some w) copied (results.Removed entry) is = copied-entry (entry_under name.key v.value) (entry_under key w) (entries_of.entry_of entry) is (keyed, copied, refl, refl)

  pub removed-given : (own : K) → key ≡ own → (copy : Option V) (result : CompResult K V) → IsRemoved key copy result → IsComputed is_clone own ops.Remove result
  removed-given own keyed None (results.StillNone k) is = is ∙ keyed
  removed-given own keyed None (results.Unchanged entry) is = absurd is
  removed-given own keyed None (results.Inserted entry) is = absurd is
  removed-given own keyed None (results.ReplacedWith entry) is = absurd is
  removed-given own keyed None (results.Removed entry) is = absurd is
  removed-given own keyed (Some w) (results.StillNone k) is = absurd is
  removed-given own keyed (Some w) (results.Unchanged entry) is = absurd is
  removed-given own keyed (Some w) (results.Inserted entry) is = absurd is
  removed-given own keyed (Some w) (results.ReplacedWith entry) is = absurd is
  removed-given own keyed (Some w) (results.Removed entry) is = ap (λ (x : calls.Entry K V). x.key) is ∙ keyed

  module _ (v w : V) (copied : is_clone v w) where
    pub put-answer : (E : Type 0) (name : Name K) → key ≡ name.key → (shown was_shown : Bool) → was_shown ≡ shown → (result : CompResult K V) → IsPut key w was_shown result → IsCopiedReply is_clone (put_by {E = E} name v shown) (of_computed result)
    put-answer E name keyed true true same (results.ReplacedWith entry) is = copied-entry (fresh_entry name.key v true) (fresh_entry key w true) (entries_of.entry_of entry) is (keyed, copied, refl, refl)
    put-answer E name keyed true true same (results.StillNone own) is = absurd is
    put-answer E name keyed true true same (results.Unchanged entry) is = absurd is
    put-answer E name keyed true true same (results.Inserted entry) is = absurd is
    put-answer E name keyed true true same (results.Removed entry) is = absurd is
    put-answer E name keyed false false same (results.Inserted entry) is = copied-entry (fresh_entry name.key v false) (fresh_entry key w false) (entries_of.entry_of entry) is (keyed, copied, refl, refl)
    put-answer E name keyed false false same (results.StillNone own) is = absurd is
    put-answer E name keyed false false same (results.Unchanged entry) is = absurd is
    put-answer E name keyed false false same (results.ReplacedWith entry) is = absurd is
    put-answer E name keyed false false same (results.Removed entry) is = absurd is
    put-answer E name keyed true false same result is = cc
    put-answer E name keyed false true same result is = cc

    pub put-given : (own : K) → key ≡ own → (was_shown : Bool) (result : CompResult K V) → IsPut key w was_shown result → IsComputed is_clone own (ops.Put v) result
    put-given own keyed true (results.ReplacedWith entry) is = (ap (λ (x : calls.Entry K V). x.key) is ∙ keyed, subst (λ (x : calls.Entry K V). is_clone v x.value) (sym is) copied)
    put-given own keyed true (results.StillNone k) is = absurd is
    put-given own keyed true (results.Unchanged entry) is = absurd is
    put-given own keyed true (results.Inserted entry) is = absurd is
    put-given own keyed true (results.Removed entry) is = absurd is
    put-given own keyed false (results.Inserted entry) is = (ap (λ (x : calls.Entry K V). x.key) is ∙ keyed, subst (λ (x : calls.Entry K V). is_clone v x.value) (sym is) copied)
    put-given own keyed false (results.StillNone k) is = absurd is
    put-given own keyed false (results.Unchanged entry) is = absurd is
    put-given own keyed false (results.ReplacedWith entry) is = absurd is
    put-given own keyed false (results.Removed entry) is = absurd is

-- If a clone that was needed of a live value failed, it is one that can fail.
pub may-fail : {K V : Type 0} (is_infallible : V → Type 0) (dead : Bool) (w : Write K V) (o : Option (Write K V)) → o ≡ cond (not dead) (Some w) None → (dead ≡ true → ⊥) → (is_infallible w.value → ⊥) → IsSomeAnd o (λ w. ¬ (is_infallible w.value))
may-fail is_infallible true w o is not_dead fails = absurd (not_dead refl)
may-fail is_infallible false w o is not_dead fails = rw is fails

-- The lookup of a compute that finds nothing has no clone to keep aside.
pub nothing-saved : {V : Type 0} (is_clone : V → V → Type 0) (keep : Bool) → IsCopyOf is_clone (cond keep None None) None
nothing-saved is_clone true = tt
nothing-saved is_clone false = tt

-- where the table has no open turn of a key, there is none
pub none-open : {K V E : Type 0} (eq : K → K → Bool) (is_clone : V → V → Type 0) (hash_of : K → ℕ) (ts : List (Turn K V E)) (opened : TurnKey K → Option (OpenTurn V)) (ended : ℕ → Option (EndedTurn K V E)) → Represents eq is_clone hash_of ts opened ended
    → (q : TurnKey K) → q.hash ≡ hash_of (arc_value q.key) → (b : Bool) → b ≡ is_some (opened q) → b ≡ false → found (is_open_for eq q.kind (arc_value q.key)) ts ≡ None
none-open {K} {V} {E} eq is_clone hash_of ts opened ended keeps q hashed b told off =
    none-agree (IsOpenRow eq is_clone) (found (is_open_for eq q.kind (arc_value q.key)) ts) (opened q) (keeps.opened_is q hashed) (absent (opened q) (sym told ∙ off))
  where
    absent : (o : Option (OpenTurn V)) → is_some o ≡ false → o ≡ None
    absent None is = refl
    absent (Some row) is = cc

-- What the begin of a compute gives.
module _ {K V E : Type 0} (eq : K → K → Bool) (is_clone : V → V → Type 0) (is_infallible : V → Type 0) (settings : Settings K V) (steps : List (AcceptedStep K V E)) (k : K) (keep : Bool) (at : ℕ) where
  abbrev h : List (Event K V)
  h = events_in steps

  abbrev opened_here : Option (Turn K V E)
  opened_here = found (is_open_for eq Compute k) (turns steps)

  abbrev GivesHere : Result (Reply K V E) Refused → Type 0
  GivesHere = Gives eq is_clone is_infallible settings steps (BeginCompute k keep at)

  accepted-is : (t : Option (Turn K V E)) → opened_here ≡ t → accepted eq settings steps (BeginCompute k keep at) ≡ Some (begun_compute eq settings h k keep at t)
  accepted-is t opened = ap (λ o. Some (begun_compute eq settings h k keep at o)) opened

  pub gives-memory : GivesHere (Err causes.OutOfMemory)
  gives-memory = (tt, λ no. absurd no)

  -- another's open turn is waited for,
  module _ (apart : AreApart (turns steps)) (t : Turn K V E) (opened : opened_here ≡ Some t) where
    full : found (λ u. u.name.number == t.name.number) (turns steps) ≡ Some t
    full = found-numbered (turns steps) apart t (found-is (is_open_for eq Compute k) (turns steps) t opened).0

    kind_is : t.name.kind ≡ Compute
    kind_is = same_kind-is t.name.kind Compute (and_parts (same_kind t.name.kind Compute) (eq t.name.key k) (and_parts (is_none t.end) (same_kind t.name.kind Compute && eq t.name.key k) (found-is (is_open_for eq Compute k) (turns steps) t opened).1).1).0

    abbrev unspent_of : Option (Turn K V E) → ℕ
    unspent_of None = 0
    unspent_of (Some u) = u.unspent

    pub compute-waits : t.unspent ≢ greatest_number → (name : Name K) → name ≡ record { number = t.name.number; kind = Compute; key = k } → GivesHere (Ok (Wait name))
    compute-waits few name named =
        gives-accepted eq is_clone is_infallible settings steps (BeginCompute k keep at) (begun_compute eq settings h k keep at (Some t)) (Wait name) (accepted-is (Some t) opened)
        (ap (λ n. let a : Reply K V E = Wait n in a) (named ∙ ap (λ (q : Kind). let n : Name K = record { number = t.name.number; kind = q; key = k } in n) (sym kind_is)))
        (λ out. let same = sym full ∙ out.1 in few (ap (λ (o : Option (Turn K V E)). unspent_of o) same ∙ out.2))

    pub compute-full : t.unspent ≡ greatest_number → GivesHere (Err causes.NumbersUsedUp)
    compute-full full_up = subst (WantsNumber (next_number settings h) (turns steps)) (sym (accepted-is (Some t) opened)) (t, full, full_up)

    pub after-compute-waits : after eq settings (BeginCompute k keep at) steps ≡ (record { events = Passed at ∷ []; move = Some (Waited t.name.number) }) ∷ steps
    after-compute-waits = ap (λ a. with_step a steps) (accepted-is (Some t) opened)

  -- or one is opened, and the live value is shown
  module _ (opened : opened_here ≡ None) where
    pub compute-used-up : next_number settings h ≡ greatest_number → GivesHere (Err causes.NumbersUsedUp)
    compute-used-up out = subst (WantsNumber (next_number settings h) (turns steps)) (sym (accepted-is None opened)) (omega arith, out)

    pub compute-runs : (number : ℕ) → number ≡ next_number settings h → number ≢ greatest_number → (name : Name K) → name ≡ record { number = number; kind = Compute; key = k } → (o : Option (Write K V)) → live_at eq settings k at h ≡ o
        → (entry : Option (calls.Entry K V)) → IsEntryOf is_clone (option_map entry_of o) entry → GivesHere (Ok (Run name entry))
    compute-runs number counted some name named o live entry copied =
        gives-accepted eq is_clone is_infallible settings steps (BeginCompute k keep at) (begun_compute eq settings h k keep at None) (Run name entry) (accepted-is None opened)
        (named ∙ ap (λ n. let it : Name K = record { number = n; kind = Compute; key = k } in it) counted, subst (λ w. IsEntryOf is_clone (option_map entry_of w) entry) (sym live) copied) (λ out. some (counted ∙ out.1))

    pub after-compute-runs : (number : ℕ) → number ≡ next_number settings h → (o : Option (Write K V)) → live_at eq settings k at h ≡ o → after eq settings (BeginCompute k keep at) steps
        ≡ (record { events = Drawn ∷ Looked k at ∷ []; move = Some (Opened (record { number = number; kind = Compute; key = k }) (is_some o) (cond keep (option_map (λ w. w.value) o) None)) }) ∷ steps
    after-compute-runs number counted o live =
        ap (λ a. with_step a steps) (accepted-is None opened)
        ∙ ap (λ (w : Option (Write K V)). let s : AcceptedStep K V E = record { events = Drawn ∷ Looked k at ∷ []; move = Some (Opened (record { number = next_number settings h; kind = Compute; key = k }) (is_some w) (cond keep (option_map (λ w. w.value) w) None)) } in s ∷ steps) live
        ∙ ap (λ n. let s : AcceptedStep K V E = record { events = Drawn ∷ Looked k at ∷ []; move = Some (Opened (record { number = n; kind = Compute; key = k }) (is_some o) (cond keep (option_map (λ w. w.value) o) None)) } in s ∷ steps) (sym counted)

  -- the causes for which waiting in the table of turns fails
  pub compute-refused : AreApart (turns steps) → (hash_of : K → ℕ) (opened_now : TurnKey K → Option (OpenTurn V)) (ended_now : ℕ → Option (EndedTurn K V E)) (q : TurnKey K) (number : ℕ) (o : Option (Turn K V E)) → opened_here ≡ o → number ≡ next_number settings h → (cause : Refused)
      → IsBegun (λ after. Represents eq is_clone hash_of after opened_now ended_now) q number true (turns steps) o (Err cause) → GivesHere (Err cause)
  compute-refused apart hash_of opened_now ended_now q number None opened counted causes.OutOfMemory begins = gives-memory
  compute-refused apart hash_of opened_now ended_now q number None opened counted causes.NumbersUsedUp begins = compute-used-up opened (sym counted ∙ begins)
  compute-refused apart hash_of opened_now ended_now q number None opened counted causes.UnknownTurn begins = absurd begins
  compute-refused apart hash_of opened_now ended_now q number None opened counted causes.UnknownTicket begins = absurd begins
  compute-refused apart hash_of opened_now ended_now q number None opened counted causes.TurnIsOpen begins = absurd begins
  compute-refused apart hash_of opened_now ended_now q number None opened counted causes.WaitsAbandoned begins = absurd begins
  compute-refused apart hash_of opened_now ended_now q number (Some t) opened counted causes.OutOfMemory begins = absurd begins
  compute-refused apart hash_of opened_now ended_now q number (Some t) opened counted causes.NumbersUsedUp begins = compute-full apart t opened begins.1
  compute-refused apart hash_of opened_now ended_now q number (Some t) opened counted causes.UnknownTurn begins = absurd begins
  compute-refused apart hash_of opened_now ended_now q number (Some t) opened counted causes.UnknownTicket begins = absurd begins
  compute-refused apart hash_of opened_now ended_now q number (Some t) opened counted causes.TurnIsOpen begins = cc
  compute-refused apart hash_of opened_now ended_now q number (Some t) opened counted causes.WaitsAbandoned begins = absurd begins
