-- What the end of a turn gives, and what a state stands for after it.
use Rattle.std.proofs.Common.{◌≡◌, ℕ, ◌<◌, max, nat_le, length, is_some, not, ◌&&◌, ◌==◌, Bool, true, false, cond, Option, Some, None, option_map, List, [], ◌∷◌, ◌++◌, refl, sym, ap, ◌∙◌, subst, arith}
use Rattle.std.specs.Prelude.{Result, Ok, Err, IsSome, IsSomeAnd}
use Rattle.std.specs.Arc.{arc_value}
use Rattle.std.specs.Cmp.{IsEquivalence}
use Rattle.std.specs.Map.{lookup}
use Rattle.std.proofs.lemmas.Bool.{eq-eqb, eqb-true}
use Rattle.std.specs.Option.{MatchOption, IfSome}
use Rattle.moka_policy.specs.declared.policy.Refused.{Refused}
use Rattle.moka_policy.specs.declared.policy.Refused.TheVariants.{OutOfMemory, NumbersUsedUp, UnknownTurn}
use Rattle.moka_model.specs.declared.turns.Outcome.{Outcome}
use Rattle.moka_model.specs.declared.turns.Outcome.TheVariants as outcomes
use Rattle.moka_model.specs.Lives.{Settings, Write, live_one}
use Rattle.moka_model.specs.Events.{Event, Maintained, latest}
use Rattle.moka_model.specs.Maintenance.{Queues}
use Rattle.moka_model.specs.Orders.{live}
use Rattle.moka_model.specs.Numbers.{drawn_in, next_number, greatest_number, flush_point, stores_nothing}
use Rattle.moka_model.specs.Turns.{Turn, Name, Move, Ended, fits, moved, found, is_open_as, is_open_for}
use Rattle.moka_model.specs.Steps.{AcceptedStep, events_in, turns}
use Rattle.moka_model.specs.Calls as calls
use Rattle.moka_model.specs.Entries.{entry_of}
use Rattle.moka_model.specs.Calls.{Reply, Entered, Accepted, Finish, Insert, IsOutOfNumbers, end_by, reply_of_finish, finish_events, finished, is_replacing, accepted, after, with_step, FinishMayFail, WantsNumber, IsCopiedReply, IsCopiedEnd, IsLegal, Holds}
use Rattle.moka_model.specs.Turns as turning
use Rattle.moka_turns.specs.declared.table.TurnEnd.{TurnEnd}
use Rattle.moka_turns.specs.declared.table.TurnEnd.TheVariants as ends_of
use Rattle.moka_turns.specs.Represents.{end_of}
use Rattle.moka_model.specs.StandsFor.{Books, View, StandsFor}
use Rattle.moka_expiration.specs.StateData.{SettingsData, StateData}
use Rattle.moka_table.specs.Table.{Contents, SameRows}
use Rattle.moka_state.specs.State.{books_by}
use Rattle.moka_model.proofs.Callers.{IsViewOf, whole, stands-moved, orders-empty, standing-empty, out_of_numbers-insert}
use Rattle.moka_turns.specs.declared.handles.Turn as handles
use Rattle.moka_turns.specs.declared.turn_key.TurnKey.{TurnKey}
use Rattle.moka_turns.specs.declared.table.OpenTurn.{OpenTurn}
use Rattle.moka_turns.specs.declared.table.EndedTurn.{EndedTurn}
use Rattle.moka_turns.specs.Open.{IsOpenAs, IsOpenFor, IsOpenWith}
use Rattle.moka_turns.specs.Represents.{turns_in}
use Rattle.moka_turns.proofs.Begins.{nobody}
use Rattle.moka_turns.proofs.Views.{is_at, row_of, table-row}
use Rattle.moka_state.specs.declared.answers.Answer as answers
use Rattle.moka_state.specs.declared.answers.Answer.TheVariants as gives
use Rattle.std.specs.declared.sync.Arc.{Arc}
use Rattle.std.specs.declared.alloc.Global.{Global}
use Rattle.moka_state.specs.declared.answers.Finished.{Finished}
use Rattle.moka_state.specs.declared.answers.FinishRefused.{FinishRefused}
use Rattle.moka_turns.specs.Handles.{turn_name}
use Rattle.moka_state.specs.Ends.{Spec, IsOpenTurn, FinishesNamed}
use Rattle.moka_state.specs.Given.{Gives, of_answer}
use Rattle.moka_state.specs.Finish.{IsGiven}
use Rattle.moka_state.proofs.Turns.{gives-accepted, gives-memory}

module _ {K V E : Type 0} (eq : K → K → Bool) (settings : Settings K V) (steps : List (AcceptedStep K V E)) (name : Name K) (outcome : Outcome V E) (at : ℕ) (fit : fits name.kind outcome ≡ true) where
  abbrev h : List (Event K V)
  h = events_in steps

  abbrev ends : Turn K V E → Accepted K V E
  ends = finished eq settings h name outcome at

  accepted-by : (o : Option (Turn K V E)) → found (is_open_as eq name) (turns steps) ≡ o → accepted eq settings steps (Finish name outcome at) ≡ option_map ends o
  accepted-by o is = ap (λ b. cond b (option_map ends (found (is_open_as eq name) (turns steps))) None) fit ∙ ap (option_map ends) is

  -- it draws a number and none is left
  abbrev pub FinishOutOfNumbers : Type 0
  FinishOutOfNumbers = (0 < drawn_in (finish_events eq settings h name.key at outcome)) × (next_number settings h ≡ greatest_number)

  module _ (is_clone : V → V → Type 0) (is_infallible : V → Type 0) where
    abbrev Finishes : Result (Reply K V E) Refused → Type 0
    Finishes = Gives eq is_clone is_infallible settings steps (Finish name outcome at)

    -- no open turn has the name
    pub finish-unknown : found (is_open_as eq name) (turns steps) ≡ None → Finishes (Err UnknownTurn)
    finish-unknown is = (accepted-by None is, refl)

    module _ (t : Turn K V E) (is : found (is_open_as eq name) (turns steps) ≡ Some t) where
      pub finish-given : (answer : Reply K V E) → IsCopiedReply is_clone (reply_of_finish eq settings h t at outcome name) answer → ¬ FinishOutOfNumbers → Finishes (Ok answer)
      finish-given answer same left = gives-accepted eq is_clone is_infallible settings steps (Finish name outcome at) (ends t) answer (accepted-by (Some t) is) same left

      pub finish-memory : FinishMayFail eq is_infallible settings steps name at outcome → ¬ FinishOutOfNumbers → Finishes (Err OutOfMemory)
      finish-memory may left = gives-memory eq is_clone is_infallible settings steps (Finish name outcome at) (ends t) (accepted-by (Some t) is) (subst IsSome (sym (accepted-by (Some t) is)) refl, may) left

      pub finish-full : FinishOutOfNumbers → Finishes (Err NumbersUsedUp)
      finish-full out = subst (WantsNumber (next_number settings h) (turns steps)) (sym (accepted-by (Some t) is)) out

  -- the state stands for the steps and the end, where its view is that of the end's events, and its turns are those with it
  pub finish-stands : {is_clone : V → V → Type 0} (view : View K V) (rows left : List (Turn K V E)) → StandsFor eq is_clone settings (whole view rows) steps → (t : Turn K V E) → found (is_open_as eq name) (turns steps) ≡ Some t
      → (new : View K V) → IsViewOf eq settings new (finish_events eq settings h name.key at outcome ++ h) → Holds eq is_clone (moved (Ended t.name.number (end_by outcome (is_replacing eq settings h name.key at))) (turns steps)) left
      → StandsFor eq is_clone settings (whole new left) (after eq settings (Finish name outcome at) steps)
  finish-stands {is_clone} view rows left stands t is new view_is holds =
      let after_is = ap (λ a. with_step a steps) (accepted-by (Some t) is) in
      stands-moved eq settings view steps stands (Finish name outcome at) new left
      (subst (λ (s : List (AcceptedStep K V E)). IsViewOf eq settings new (events_in s)) (sym after_is) view_is)
      (subst (λ (s : List (AcceptedStep K V E)). Holds eq is_clone (turns s) left) (sym after_is) holds)

-- where the capacity is 0, no write is over a live value
pub never-replaced : {K V E : Type 0} (eq : K → K → Bool) (settings : Settings K V) → stores_nothing settings.max_capacity ≡ true → (steps : List (AcceptedStep K V E)) → IsLegal eq settings steps → (k : K) (at : ℕ) → is_replacing eq settings (events_in steps) k at ≡ false
never-replaced {K} {V} eq settings none steps legal k at =
    let h : List (Event K V) = events_in steps in
    let m = max (latest h) at in
    ap (λ (q : Queues (Write K V)). is_some (live eq settings k m (cond (nat_le flush_point (length q.waiting)) (Maintained settings.flush_limit at ∷ []) [] ++ h))) (orders-empty eq settings none steps legal)
    ∙ ap (λ o. is_some (live_one settings m o)) (standing-empty eq settings none k steps legal)

-- a search of an open turn that returned something, and one that returned nothing
pub told-open : {A : Type 0} (Q : A → Type 0) (o : Option A) (n : ℕ) → MatchOption o (Some n ≡ None) (λ a. IsSome (Some n) × Q a) → IsSomeAnd o Q
told-open Q None n is = cc
told-open Q (Some a) n is = is.1

pub closed-told : {A : Type 0} (Q : A → Type 0) (o : Option A) (result : Option ℕ) → MatchOption o (result ≡ None) (λ a. IsSome result × Q a) → result ≡ None → o ≡ None
closed-told Q None result is none = refl
closed-told Q (Some a) result is none = absurd (nobody result none is.0)

-- what is there, by its equation
pub taken : {A : Type 0} (Q : A → Type 0) (o : Option A) → IsSomeAnd o Q → (a : A) × (o ≡ Some a) × Q a
taken Q None is = absurd is
taken Q (Some a) is = (a, refl, is)

-- The turn is among these as an open one, and as many tickets of it are unspent.
abbrev pub IsStored : {K V E : Type 0} → (K → K → Bool) → handles.Turn K → List (Turn K V E) → Type 0
IsStored eq turn rows = IsSomeAnd (found (is_open_for eq turn.key.kind (arc_value turn.key.key)) rows) (λ t. t.name.number ≡ turn.number)

abbrev pub HasTickets : {K V E : Type 0} → (K → K → Bool) → handles.Turn K → ℕ → List (Turn K V E) → Type 0
HasTickets eq turn waiting rows = IfSome (found (is_open_for eq turn.key.kind (arc_value turn.key.key)) rows) (λ t. t.unspent ≡ waiting)

-- The open turn of a state, and its entry in the table of turns.
module _ {K V E : Type 0} (eq : K → K → Bool) (laws : IsEquivalence eq) (is_clone : V → V → Type 0) (hash_of : K → ℕ) (respects : (a b : K) → eq a b ≡ true → hash_of a ≡ hash_of b)
    (opened : List (TurnKey K × OpenTurn V)) (ended : List (ℕ × EndedTurn K V E)) (turn : handles.Turn K) (hashed : turn.key.hash ≡ hash_of (arc_value turn.key.key)) where
  abbrev stored : Option (Turn K V E)
  stored = found (is_open_for eq turn.key.kind (arc_value turn.key.key)) (turns_in hash_of opened ended)

  abbrev entry : Option (OpenTurn V)
  entry = lookup (is_at eq turn.key) opened

  same-entry : option_map row_of stored ≡ entry
  same-entry = table-row eq laws is_clone hash_of respects opened ended turn.key hashed

  abbrev HasNumber : Option (Turn K V E) → Type 0
  HasNumber o = IsSomeAnd o (λ t. t.name.number ≡ turn.number)

  abbrev HasWaiting : ℕ → Option (Turn K V E) → Type 0
  HasWaiting waiting o = IfSome o (λ t. t.unspent ≡ waiting)

  -- an entry that is found is that of an open turn of the state,
  pub entry-stored : (waiting : ℕ) → IsOpenWith turn.number waiting entry → HasNumber stored × HasWaiting waiting stored
  entry-stored waiting is = go stored (subst (IsOpenWith turn.number waiting) (sym same-entry) is)
    where
      go : (o : Option (Turn K V E)) → IsOpenWith turn.number waiting (option_map row_of o) → HasNumber o × HasWaiting waiting o
      go None is = let no : false ≡ true = is.0 in cc
      go (Some t) is = is.1

  -- and conversely
  pub stored-entry : HasNumber stored → IsOpenAs turn.number entry
  stored-entry is = subst (IsOpenAs turn.number) same-entry (go stored is)
    where
      go : (o : Option (Turn K V E)) → HasNumber o → IsOpenAs turn.number (option_map row_of o)
      go None is = absurd is
      go (Some t) is = (refl, is)

  pub stored-for : {A : Type 0} (end : Option A) (waiting : ℕ) → HasNumber stored → HasWaiting waiting stored → (0 < waiting → IsSome end) → IsOpenFor turn.number end entry
  stored-for end waiting is awaited saved = subst (IsOpenFor turn.number end) same-entry (go stored is awaited)
    where
      go : (o : Option (Turn K V E)) → HasNumber o → HasWaiting waiting o → IsOpenFor turn.number end (option_map row_of o)
      go None is awaited = absurd is
      go (Some t) is awaited = (refl, (is, λ less. saved (rw awaited at less)))

  -- an end that is retained serves however many wait
  pub stored-with : {A : Type 0} (end : A) → HasNumber stored → IsOpenFor turn.number (Some end) entry
  stored-with end is = subst (IsOpenFor turn.number (Some end)) same-entry (go stored is)
    where
      go : (o : Option (Turn K V E)) → HasNumber o → IsOpenFor turn.number (Some end) (option_map row_of o)
      go None is = absurd is
      go (Some t) is = (refl, (is, λ less. refl))

-- Whether the state's own check says that a write is out of sequence numbers.
module _ {K V E : Type 0} (eq : K → K → Bool) (settings : Settings K V) (steps : List (AcceptedStep K V E)) (k : K) (v : V) (at : ℕ) (capacity : Option ℕ) (next : ℕ) (same : capacity ≡ settings.max_capacity) (counted : next ≡ next_number settings (events_in steps)) where
  pub write-left : (not (stores_nothing capacity) && (next == greatest_number)) ≡ false → ¬ (IsOutOfNumbers eq settings steps (Insert k v at))
  write-left left out =
      let both = (out_of_numbers-insert eq settings k v at steps).0 out in
      let stores : stores_nothing capacity ≡ false = ap stores_nothing same ∙ both.0 in
      let used_up : (next == greatest_number) ≡ true = eq-eqb next greatest_number (counted ∙ both.1) in
      let no : true ≡ false = sym (ap (λ b. not b && (next == greatest_number)) stores ∙ used_up) ∙ left in
      cc

  pub write-full : (not (stores_nothing capacity) && (next == greatest_number)) ≡ true → IsOutOfNumbers eq settings steps (Insert k v at)
  write-full full =
      let both = wanted (stores_nothing capacity) (next == greatest_number) full in
      (out_of_numbers-insert eq settings k v at steps).1 (sym (ap stores_nothing same) ∙ both.0, sym counted ∙ eqb-true next greatest_number both.1)
    where
      wanted : (nothing used_up : Bool) → (not nothing && used_up) ≡ true → (nothing ≡ false) × (used_up ≡ true)
      wanted true used_up e = cc
      wanted false used_up e = (refl, e)

-- if the kept value is a clone, so is the kept end with it
pub saved-copied : {V : Type 0} (E : Type 0) (is_clone : V → V → Type 0) (value : V) (is_replaced : Bool) (kept : Option V) → IfSome kept (is_clone value)
    → IfSome (option_map (λ v. let it : TurnEnd V E = ends_of.Value v is_replaced in it) kept) (λ end. IsCopiedEnd is_clone (Some (turning.Value value is_replaced)) (Some (end_of end)))
saved-copied E is_clone value is_replaced None copied = tt
saved-copied E is_clone value is_replaced (Some v) copied = (copied, refl)

-- the same rows are the same books
pub same-books-of : {K V : Type 0} (latest number : ℕ) (old new : Contents K V) → SameRows old new → books_by new latest number ≡ books_by old latest number
same-books-of latest number old new same = rw (same.0, same.1, same.2) refl

pub with-books : {K V H W X F E : Type 0} (settings : SettingsData H W X) (books before : Books K V) (source : F) (room : ℕ) (rows : List (Turn K V E)) → books ≡ before
    → (let a : StateData K V H W X F E = record { settings = settings; books = books; source = source; initial_room = room; turns = rows } in a) ≡ record { settings = settings; books = before; source = source; initial_room = room; turns = rows }
with-books {K} {V} {H} {W} {X} {F} {E} settings books before source room rows same = ap (λ b. let a : StateData K V H W X F E = record { settings = settings; books = b; source = source; initial_room = room; turns = rows } in a) same

-- the kept end with an error is the end with that error
pub failed-copied : {V E : Type 0} (is_clone : V → V → Type 0) (e : E) (end : Option (TurnEnd V E)) → IfSome end (λ kept. end_of kept ≡ turning.Failed e)
    → IfSome end (λ kept. IsCopiedEnd is_clone (Some (turning.Failed e)) (Some (end_of kept)))
failed-copied is_clone e None is = tt
failed-copied is_clone e (Some kept) is = ap (λ o. Some o) is

-- the entry in a reply, if it has one
abbrev entered : {K V E : Type 0} → calls.Entry K V → Reply K V E → calls.Entry K V
entered default (Entered e) = e
entered default answer = default

-- a copy of a value under its turn's key is what the turn was given
pub given-entry : {K V E : Type 0} (is_clone : V → V → Type 0) (key : K) (v : V) (answer : answers.Answer K V E) (e : calls.Entry K V) → of_answer answer ≡ Entered e → e.key ≡ key → is_clone v e.value → IsGiven is_clone key (outcomes.Value v) answer
given-entry {K} {V} {E} is_clone key v (gives.Entry entry) e is keyed copied =
    let same : entry_of entry ≡ e = ap (entered {E = E} e) is in
    (ap (λ (x : calls.Entry K V). x.key) same ∙ keyed, subst (λ (x : calls.Entry K V). is_clone v x.value) (sym same) copied)
given-entry is_clone key v gives.Nothing e is keyed copied = cc
given-entry is_clone key v (gives.Failed error) e is keyed copied = cc

-- A turn that ends under a name ends under an equal one. The open turn tells of which cache.
pub finishes-as : {K V H W X F E : Type 0} {spec : Spec K V E (StateData K V H W X F E)} {turn : handles.Turn K} {name : Name K} {outcome : Outcome V (Arc E Global)} {now : ℕ} {old new : StateData K V H W X F E} {result : Result (Finished K V E) (FinishRefused K V E)}
    → IsOpenTurn spec turn old → turn_name turn ≡ name → FinishesNamed spec (turn_name turn) outcome now old new result → FinishesNamed spec name outcome now old new result
finishes-as {spec = spec} {outcome = outcome} {now = now} {old = old} {new = new} {result = result} opened same ends = subst (λ n. FinishesNamed spec n outcome now old new result) same ends
