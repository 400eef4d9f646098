-- The result of an upsert is the live count plus one: what a caller concludes from the contract of `and_upsert_with`.
use Rattle.std.proofs.Common.{◌≡◌, ◌∙◌, ℕ, Bool, true, false, if◌then◌else◌, Option, Some, None, List, option_map, refl, ap}
use Rattle.std.specs.Prelude.{Result, Ok, Err, IfSome, nat_eq}
use Rattle.moka_policy.specs.declared.policy.Refused.{Refused}
use Rattle.moka_model.specs.declared.entry.Entry.{Entry}
use Rattle.moka_model.specs.declared.turns.Op.TheVariants as ops
use Rattle.moka_model.specs.declared.turns.Outcome.TheVariants as outcomes
use Rattle.moka_model.specs.declared.turns.Kind.TheVariants.{Compute}
use Rattle.moka_model.specs.Lives.{Settings, Write}
use Rattle.moka_model.specs.Events.{Event}
use Rattle.moka_model.specs.Turns.{Name, Turn, found, is_open_as, is_open_for, fits}
use Rattle.moka_model.specs.Steps.{AcceptedStep, events_in, turns}
use Rattle.moka_model.specs.Calls.{Accepted, BeginCompute, Run, Wait, Inserted, ReplacedWith, IsCopiedReply, IsEntryOf, after, begun_compute, finished, live_at, put_by}
use Rattle.moka_model.specs.Calls as calls
use Rattle.moka_model.specs.StandsFor.{IsReplyOf}
use Rattle.moka_model.specs.Entries.{entry_of}
use Rattle.moka_state.specs.ComputeForms.{IsComputeForm, IsUpserted}
use Rattle.examples.specs.Counts.{count_of, live_count, one_more_than}
use Rattle.examples.proofs.counters.count.Goals as goal

-- a clone of a count equals the count
abbrev is_clone : ℕ → ℕ → Type 0
is_clone count copy = copy ≡ count

-- the count of the entry that the closure gets
abbrev shown_count : Option (calls.Entry ℕ ℕ) → Option ℕ
shown_count shown = option_map (λ e. e.value) shown

same-shown : (shown : Option (Entry ℕ ℕ)) → option_map (λ (e : Entry ℕ ℕ). (entry_of e).value) shown ≡ shown_count (option_map entry_of shown)
same-shown None = refl
same-shown (Some e) = refl

same-count : (w : Option (Write ℕ ℕ)) (shown : Option (calls.Entry ℕ ℕ)) → IsEntryOf is_clone (option_map calls.entry_of w) shown → shown_count shown ≡ option_map (λ w. w.value) w
same-count None None is = refl
same-count None (Some e) is = absurd is
same-count (Some w) None is = absurd is
same-count (Some w) (Some e) is = ap Some is.1

module _ {E : Type 0} (settings : Settings ℕ ℕ) (page at : ℕ) where
  -- the closure gets the live count
  shown-live : (h : List (Event ℕ ℕ)) (name : Name ℕ) (shown : Option (calls.Entry ℕ ℕ)) (o : Option (Turn ℕ ℕ E))
      → IsCopiedReply is_clone (begun_compute nat_eq settings h page false at o).reply (Run name shown)
      → shown_count shown ≡ option_map (λ w. w.value) (live_at nat_eq settings page at h)
  shown-live h name shown (Some t) waits = cc
  shown-live h name shown None runs = same-count (live_at nat_eq settings page at h) shown runs.1

-- the entry that a `Put` returns holds the count that was put
module _ (E : Type 0) (name : Name ℕ) (count : ℕ) where
  inserted : (put : calls.Entry ℕ ℕ) (shown : Bool) → IsCopiedReply is_clone (put_by {E = E} name count shown) (Inserted put) → put.value ≡ count
  inserted put true other = cc
  inserted put false is = is.1

  replaced : (put : calls.Entry ℕ ℕ) (shown : Bool) → IsCopiedReply is_clone (put_by {E = E} name count shown) (ReplacedWith put) → put.value ≡ count
  replaced put true is = is.1
  replaced put false other = cc

module _ {E : Type 0} (settings : Settings ℕ ℕ) (h : List (Event ℕ ℕ)) (name : Name ℕ) (count at : ℕ) where
  abbrev end : Bool → Option (Turn ℕ ℕ E) → Option (Accepted ℕ ℕ E)
  end fit o = if fit then option_map (finished nat_eq settings h name (outcomes.Op (ops.Put count)) at) o else None

  -- the turn that is finished was open
  of-end : (answer : calls.Reply ℕ ℕ E) (fit : Bool) (o : Option (Turn ℕ ℕ E)) → IsReplyOf is_clone (end fit o) answer → (shown : Bool) × IsCopiedReply is_clone (put_by name count shown) answer
  of-end answer true (Some t) is = (t.shown, is)
  of-end answer true None is = absurd is
  of-end answer false o is = absurd is

  module _ (entry : Entry ℕ ℕ) where
    -- the returned entry holds the count that was put
    put-is : (answer : calls.Reply ℕ ℕ E) → (shown : Bool) × IsCopiedReply is_clone (put_by name count shown) answer → IsUpserted (Ok answer) (Ok entry) → (entry_of entry).value ≡ count
    put-is (Inserted put) is own = ap (λ (e : calls.Entry ℕ ℕ). e.value) own ∙ inserted E name count put is.0 is.1
    put-is (ReplacedWith put) is own = ap (λ (e : calls.Entry ℕ ℕ). e.value) own ∙ replaced E name count put is.0 is.1
    put-is (calls.Found v) is other = absurd other
    put-is (calls.Contains b) is other = absurd other
    put-is calls.Done is other = absurd other
    put-is (calls.Counted n) is other = absurd other
    put-is (calls.Left b) is other = absurd other
    put-is (calls.Noticed notice) is other = absurd other
    put-is (calls.Entered e) is other = absurd other
    put-is (Run own shown) is other = absurd other
    put-is (Wait own) is other = absurd other
    put-is calls.GaveNothing is other = absurd other
    put-is (calls.GaveError e) is other = absurd other
    put-is (calls.StillNone k) is other = absurd other
    put-is (calls.Unchanged e) is other = absurd other
    put-is (calls.Removed e) is other = absurd other
    put-is calls.NotYet is other = absurd other
    put-is calls.WasAbandoned is other = absurd other
    put-is calls.HasEnded is other = absurd other

module _ {E : Type 0} (is_infallible : ℕ → Type 0) (settings : Settings ℕ ℕ) (steps : List (AcceptedStep ℕ ℕ E)) (page at : ℕ) (entry : Entry ℕ ℕ) where
  -- the returned count is the live count plus one
  counts-up : (Stands : List (AcceptedStep ℕ ℕ E) → Type 0) (shown : Option (Entry ℕ ℕ)) (given : Option ℕ) (answer : Result (calls.Reply ℕ ℕ E) Refused)
      → IsComputeForm nat_eq is_clone is_infallible settings steps (BeginCompute page false at) at (option_map entry_of shown) (option_map (λ v. Some (ops.Put v)) given) answer Stands
      → IsUpserted answer (Ok entry) → IfSome given (λ v. v ≡ one_more_than (count_of (option_map (λ e. (entry_of e).value) shown)))
      → (entry_of entry).value ≡ one_more_than (live_count settings steps page at)
  counts-up Stands shown None (Ok answer) form put gave = absurd form
  counts-up Stands shown None (Err cause) form put gave = absurd put
  counts-up Stands shown (Some v) (Err cause) form put gave = absurd put
  counts-up Stands shown (Some v) (Ok answer) form put gave =
      let live = shown-live settings page at (events_in steps) form.0 (option_map entry_of shown) (found (is_open_for nat_eq Compute page) (turns steps)) form.1.0 in
      let later = after nat_eq settings (BeginCompute page false at) steps in
      let ends = of-end settings (events_in later) form.0 v at answer (fits {E = E} form.0.kind (outcomes.Op (ops.Put v))) (found (is_open_as nat_eq form.0) (turns later)) form.2.0.0 in
      put-is settings (events_in later) form.0 v at entry answer ends put ∙ gave ∙ ap one_more_than (ap count_of (same-shown shown ∙ live))

-- what the closure's contract says of its result, without the part about how it ran
as-given : (A : Type 0) (P : ℕ → Type 0) (given : Option ℕ) → IfSome given (λ v. A × P v) → IfSome given P
as-given A P None is = is
as-given A P (Some v) is = is.1

pub returns : goal.returns
returns c = λ settings steps stand.
    let form = c.in_ok-entry.ensures.form in
    let goes = form.3 settings steps (rw c.entry.ensures.state stand) in
    c.into_value.ensures
    ∙ counts-up _ settings steps c.entry.result.key c.entry.result.at c.in_ok-entry.entry _ form.0 form.1 form.2 goes form.4 (as-given _ (λ v. v ≡ one_more_than (count_of (option_map (λ (e : Entry ℕ ℕ). (entry_of e).value) form.0))) form.1 form.5)
    ∙ ap (λ k. one_more_than (live_count settings steps k c.entry.result.at)) c.entry.ensures.key
    ∙ ap (λ m. one_more_than (live_count settings steps c.args.page m)) c.entry.ensures.moment
