-- The begin of a loader by the specification, and what its events make of a state's view, beside a hit or a miss.
use Rattle.std.proofs.Common.{◌≡◌, ◌≢◌, ℕ, ◌+◌, ◌<◌, ◌^◌, ◌==◌, max, not, ◌&&◌, Bool, true, false, cond, Option, Some, None, IfSome, List, [], ◌∷◌, ◌++◌, refl, sym, ap, ◌∙◌, subst, inl, inr, arith, is_none}
use Rattle.std.specs.Prelude.{Result, Ok, Err, IsSome, is_some}
use Rattle.std.specs.Arc.{arc_value}
use Rattle.std.specs.Cmp.{IsEquivalence}
use Rattle.std.specs.Fn.{Mut}
use Rattle.std.specs.List.{AllByRecursion, filter}
use Rattle.std.specs.Option.{option_to_list}
use Rattle.std.proofs.lemmas.Bool.{eq-eqb, eqb-true, and_parts}
use Rattle.std.proofs.lemmas.List.Elements.{filter_agree}
use denote.Ref.{Bor}
use Rattle.moka_model.specs.declared.turns.Kind.{Kind}
use Rattle.moka_model.specs.declared.turns.Kind.TheVariants.{With, Optionally, Try, Compute}
use Rattle.moka_model.specs.Lives.{Settings, Write, is_live, live_one}
use Rattle.moka_model.specs.Events.{Event, Looked, TurnedDown, Drawn}
use Rattle.moka_model.specs.Numbers.{drawn_in, next_number, greatest_number}
use Rattle.moka_model.specs.Turns.{Turn, Name, Move, Opened, Waited, moved, AreApart, IsIn, found, is_open_for, same_kind}
use Rattle.moka_model.specs.Steps.{AcceptedStep, events_in, turns}
use Rattle.moka_model.specs.Calls.{Call, Accepted, Reply, Begin, Entered, Run, Wait, begun, begun_by, acceptable, look_event, live_at, accepted, after, with_step, entry_of, IfReplied, IsWait, Holds}
use Rattle.moka_model.specs.StandsFor.{View, StandsFor}
use Rattle.moka_model.proofs.Callers.{IsViewOf, whole, stands-moved, numbered-alone, found-is, same_kind-is}
use Rattle.moka_policy.specs.declared.policy.Refused.{Refused}
use Rattle.moka_policy.specs.declared.policy.Refused.TheVariants as causes
use Rattle.moka_rows.specs.declared.rows.Row.{Row}
use Rattle.moka_rows.specs.Rows.{row_under}
use Rattle.moka_turns.proofs.Searches.{found-one}
use Rattle.moka_turns.specs.declared.turn_key.TurnKey.{TurnKey}
use Rattle.moka_turns.specs.declared.begin.TurnBegun.TheVariants as begun_turns
use Rattle.moka_turns.specs.declared.handles.Turn as handle
use Rattle.moka_turns.specs.declared.handles.Ticket.{Ticket}
use Rattle.moka_turns.specs.Begun.{IsBegun}
use Rattle.moka_turns.specs.Handles.{turn_name, ticket_name}
use Rattle.moka_turns.specs.declared.table.OpenTurn.{OpenTurn}
use Rattle.moka_turns.specs.declared.table.EndedTurn.{EndedTurn}
use Rattle.moka_turns.specs.Represents.{Represents, name_of}
use Rattle.moka_expiration.specs.declared.expiration_policy.ExpirationPolicy.{ExpirationPolicy}
use Rattle.moka_expiration.specs.ExpirationPolicy.{AreDated}
use Rattle.moka_table.specs.LiveEntry.{is_yes, Accepts}
use Rattle.moka_table.specs.Table.{Contents, entries, stored_write}
use Rattle.moka_state.specs.BegunOf.{BegunOf}
use Rattle.moka_state.specs.Begin.{IsSaidOf, GivesBegun}
use Rattle.moka_state.specs.Given.{Gives}
use Rattle.moka_housekeeper.specs.Hit.{UsesAt}
use Rattle.moka_state.proofs.AtOnce.{fails-to-begin}
use Rattle.moka_state.proofs.Becoming.{HasNoted, becomes-missed}
use Rattle.moka_state.proofs.Finds.{found-live, found-hit, found-none}
use Rattle.moka_state.proofs.Maintained.{HasLives}
use Rattle.moka_state.proofs.Turns.{gives-accepted}
use Rattle.moka_state.proofs.Views.{view_with, Becomes, one-each, live-held}

module _ {K V : Type 0} (eq : K → K → Bool) (settings : Settings K V) (contents : Contents K V) (frequency : List ℕ → ℕ → ℕ) (latest number : ℕ) where
  -- a lookup of a live value that the caller turns down
  pub becomes-turned-down : (noted : List ℕ → ℕ → ℕ) (k : K) (at : ℕ) → HasNoted eq settings contents frequency latest number k noted
      → Becomes eq (view_with settings contents frequency latest number) (TurnedDown k at) (view_with settings contents noted (max latest at) number)
  becomes-turned-down noted k at notes = record { settings = refl; orders = refl; notices = refl; latest = refl; next_number = refl; frequency = notes }

  -- a number that is drawn
  pub becomes-drawn : Becomes eq (view_with settings contents frequency latest number) Drawn (view_with settings contents frequency latest (number + 1))
  becomes-drawn = record { settings = refl; orders = refl; notices = refl; latest = refl; next_number = refl; frequency = λ more hash. refl }

-- the begin of a loader depends on the acceptable live value and on the open turn
pub begun-initializer : {K V E : Type 0} (eq : K → K → Bool) (settings : Settings K V) (h : List (Event K V)) (ts : List (Turn K V E)) (k : K) (kind : Kind) (replace : Option Bool) (at : ℕ) → kind ≢ Compute
    → begun_by eq settings h ts k kind replace at ≡ begun eq settings h k kind replace at (acceptable replace (live_at eq settings k at h)) (found (is_open_for eq kind k) ts)
begun-initializer eq settings h ts k With replace at is = refl
begun-initializer eq settings h ts k Optionally replace at is = refl
begun-initializer eq settings h ts k Try replace at is = refl
begun-initializer eq settings h ts k Compute replace at is = absurd (is refl)

-- a turn is found by its number
pub found-numbered : {K V E : Type 0} (ts : List (Turn K V E)) → AreApart ts → (t : Turn K V E) → IsIn t ts → found (λ u. u.name.number == t.name.number) ts ≡ Some t
found-numbered ts apart t is =
    found-one (λ u. u.name.number == t.name.number) ts t is (eq-eqb t.name.number t.name.number refl)
    (λ u is_u on_u. numbered-alone ts apart u t is_u is (eqb-true u.name.number t.name.number on_u))

-- a lookup draws no sequence number
look-draws : {K : Type 0} (V : Type 0) (said : Option Bool) (k : K) (at : ℕ) → drawn_in {V = V} (look_event said k at ∷ []) ≡ 0
look-draws V None k at = refl
look-draws V (Some false) k at = refl
look-draws V (Some true) k at = refl

-- a live value is acceptable if the caller does not ask to replace it
accepted-said : {K V : Type 0} (said : Option Bool) (w : Write K V) → is_yes said ≡ false → acceptable said (Some w) ≡ Some w
accepted-said None w declines = refl
accepted-said (Some false) w declines = refl
accepted-said (Some true) w declines = cc

-- the lookup is then one that may hit
pub looked-said : {K V : Type 0} (said : Option Bool) (k : K) (at : ℕ) → is_yes said ≡ false → look_event {V = V} said k at ≡ Looked k at
looked-said None k at declines = refl
looked-said (Some false) k at declines = refl
looked-said (Some true) k at declines = cc

none-acceptable : {K V : Type 0} (said : Option Bool) → acceptable {K = K} {V = V} said None ≡ None
none-acceptable None = refl
none-acceptable (Some false) = refl
none-acceptable (Some true) = refl

said-yes : (said : Option Bool) → is_yes said ≡ true → said ≡ Some true
said-yes None asks = cc
said-yes (Some false) asks = cc
said-yes (Some true) asks = refl

-- What a lookup finds is what the specification finds, for every history of the state.
module _ {K V E F : Type 0} (eq : K → K → Bool) {is_clone : V → V → Type 0} {rows : List (Turn K V E)} (laws : IsEquivalence eq) (settings : Settings K V) (contents : Contents K V) (frequency : List ℕ → ℕ → ℕ) (latest number : ℕ)
    (given : Settings K V) (steps : List (AcceptedStep K V E)) (stands : StandsFor eq is_clone given (whole (view_with settings contents frequency latest number) rows) steps) (lives : ExpirationPolicy) (expired_alike : HasLives settings lives) (dated : AreDated lives (entries contents))
    (hash_of : K → ℕ) (respects : (a b : K) → eq a b ≡ true → hash_of a ≡ hash_of b) (hashed : AllByRecursion (λ p. p.1.hash ≡ hash_of (arc_value p.1.key)) (entries contents))
    (call : Mut F (Bor V × Unit {0}) Bool) (replace_if : Option F) (k : K) (at hash : ℕ) (is : hash ≡ hash_of k) (is_moment : max latest at < 2 ^ 64) (said : Option Bool) where
  abbrev live_here : Option (Write K V)
  live_here = live_at eq given k at (events_in steps)

  -- a row that is accepted stores the live value, which is acceptable
  pub accepts-live : (n : ℕ) → Accepts eq call replace_if k hash (max latest at) (entries contents) said (Some n)
      → (row : Row K V) × (row_under n (entries contents) ≡ Some row) × IsSaidOf call replace_if live_here said × (acceptable said live_here ≡ Some (stored_write row)) × (is_yes said ≡ false)
  accepts-live n (row, there, of_key, live, says, declines) =
      let here = found-live eq laws settings contents frequency latest number given steps stands lives expired_alike dated hash_of respects hashed k at hash is is_moment n (row, there, of_key, live) in
      (row, there, rw here says, rw here (accepted-said said (stored_write row) declines), declines)

  -- A use of that row is the recorded lookup.
  pub hits-live : (n : ℕ) (new : Contents K V) → Accepts eq call replace_if k hash (max latest at) (entries contents) said (Some n) → IfSome (row_under n (entries contents)) (λ row. UsesAt settings.behaviour lives n row (max latest at) contents new)
      → new.notices ≡ contents.notices → (noted : List ℕ → ℕ → ℕ) → HasNoted eq settings contents frequency latest number k noted
      → Becomes eq (view_with settings contents frequency latest number) (look_event said k at) (view_with settings new noted (max latest at) number)
  hits-live n new (row, there, of_key, live, says, declines) uses notices noted notes =
      rw (looked-said {V = V} said k at declines)
      (found-hit eq laws settings contents frequency latest number given steps stands lives expired_alike dated hash_of respects hashed k at hash is is_moment n new (row, there, of_key, live) uses notices noted notes)

  -- where none is accepted, none is acceptable
  pub rejects-live : Accepts eq call replace_if k hash (max latest at) (entries contents) said None → IsSaidOf call replace_if live_here said × (acceptable said live_here ≡ None)
  rejects-live (inl (nothing, none)) =
      let here = found-none eq laws settings contents frequency latest number given steps stands lives expired_alike dated hash_of respects hashed k at hash is is_moment (inl none) in (
        rw here nothing,
        rw here (none-acceptable said),
      )
  rejects-live (inr (n, row, there, of_key, inl (dead, nothing))) =
      let here = found-none eq laws settings contents frequency latest number given steps stands lives expired_alike dated hash_of respects hashed k at hash is is_moment (inr (n, row, there, of_key, dead)) in (
        rw here nothing,
        rw here (none-acceptable said),
      )
  rejects-live (inr (n, row, there, of_key, inr (live, says, asks))) =
      let here = found-live eq laws settings contents frequency latest number given steps stands lives expired_alike dated hash_of respects hashed k at hash is is_moment n (row, there, of_key, live) in
      let told = said-yes said asks in
      (rw here says, rw (here, told) refl)

-- a write that is not live is none that passes
none-live : {K V : Type 0} (settings : Settings K V) (at : ℕ) (o : Option (Write K V)) → live_one settings at o ≡ None → filter (λ w. is_live settings w at) (option_to_list o) ≡ []
none-live settings at None none = refl
none-live {K} {V} settings at (Some w) none = go (is_live settings w at) refl
  where
    go : (b : Bool) → is_live settings w at ≡ b → filter (λ w. is_live settings w at) (w ∷ []) ≡ []
    go true is = let no : Some w ≡ None = sym (ap (λ b. cond b (Some w) None) is) ∙ none in cc
    go false is = ap (λ b. cond b (w ∷ []) []) is

-- a lookup that finds no acceptable value changes no row
pub looks-in-vain : {K V E : Type 0} (eq : K → K → Bool) {is_clone : V → V → Type 0} {rows : List (Turn K V E)} (laws : IsEquivalence eq) (settings : Settings K V) (contents : Contents K V) (frequency : List ℕ → ℕ → ℕ) (latest number : ℕ)
    (given : Settings K V) (steps : List (AcceptedStep K V E)) → StandsFor eq is_clone given (whole (view_with settings contents frequency latest number) rows) steps
    → (said : Option Bool) (k : K) (at : ℕ) → acceptable said (live_at eq given k at (events_in steps)) ≡ None → (noted : List ℕ → ℕ → ℕ) → HasNoted eq settings contents frequency latest number k noted
    → Becomes eq (view_with settings contents frequency latest number) (look_event said k at) (view_with settings contents noted (max latest at) number)
looks-in-vain {K} {V} eq laws settings contents frequency latest number given steps stands said k at none noted notes = go said none
  where
    missed : live_at eq given k at (events_in steps) ≡ None → Becomes eq (view_with settings contents frequency latest number) (Looked k at) (view_with settings contents noted (max latest at) number)
    missed nothing =
        let view : View K V = view_with settings contents frequency latest number in
        let one = one-each eq laws given view steps stands k in
        let live = sym (live-held eq laws given view steps stands k at one.0 one.1) ∙ nothing in
        becomes-missed eq settings contents frequency latest number noted k at notes
        (ap (filter (λ w. is_live settings w (max latest at))) one.1 ∙ none-live settings (max latest at) one.0 live)

    go : (said : Option Bool) → acceptable said (live_at eq given k at (events_in steps)) ≡ None → Becomes eq (view_with settings contents frequency latest number) (look_event said k at) (view_with settings contents noted (max latest at) number)
    go None nothing = missed nothing
    go (Some false) nothing = missed nothing
    go (Some true) nothing = becomes-turned-down eq settings contents frequency latest number noted k at notes

-- equal keys have the same live write
pub live-alike : {K V E : Type 0} (eq : K → K → Bool) {is_clone : V → V → Type 0} {rows : List (Turn K V E)} (laws : IsEquivalence eq) (given : Settings K V) (view : View K V) (steps : List (AcceptedStep K V E)) → StandsFor eq is_clone given (whole view rows) steps
    → (k q : K) → eq q k ≡ true → (at : ℕ) → live_at eq given k at (events_in steps) ≡ live_at eq given q at (events_in steps)
live-alike {K} {V} eq laws given view steps stands k q same at =
    let one = one-each eq laws given view steps stands k in
    let agree = filter_agree (λ (w : Write K V). eq w.key q) (λ (w : Write K V). eq w.key k) (λ w. laws.symm w.key q ∙ laws.congr q k w.key same ∙ laws.symm k w.key) (view.books.orders.admitted ++ view.books.orders.waiting) in
    live-held eq laws given view steps stands k at one.0 one.1 ∙ sym (live-held eq laws given view steps stands q at one.0 (agree ∙ one.1))

-- What a begin returns, by what its lookup finds.
module _ {K V E : Type 0} (eq : K → K → Bool) (is_clone : V → V → Type 0) (is_infallible : V → Type 0) (settings : Settings K V) (steps : List (AcceptedStep K V E)) (k : K) (kind : Kind) (said : Option Bool) (at : ℕ) (initializer : kind ≢ Compute) where
  abbrev h : List (Event K V)
  h = events_in steps

  abbrev opened_here : Option (Turn K V E)
  opened_here = found (is_open_for eq kind k) (turns steps)

  abbrev GivesHere : Bool → Result (BegunOf K V) Refused → Type 0
  GivesHere = GivesBegun eq is_clone is_infallible settings steps (Begin k kind said at)

  accepted-is : (o : Option (Write K V)) → acceptable said (live_at eq settings k at h) ≡ o → (t : Option (Turn K V E)) → opened_here ≡ t → accepted eq settings steps (Begin k kind said at) ≡ Some (begun eq settings h k kind said at o t)
  accepted-is o is t opened =
      ap Some (begun-initializer eq settings h (turns steps) k kind said at initializer
      ∙ ap (λ w. begun eq settings h k kind said at w opened_here) is
      ∙ ap (begun eq settings h k kind said at o) opened)

  no-draw : ¬ ((0 < drawn_in {V = V} (look_event said k at ∷ [])) × (next_number settings h ≡ greatest_number))
  no-draw out = let none = look-draws V said k at in absurd (let no : ⊥ = omega (arith, none, out.0) in no)

  -- a live value that is acceptable is found,
  pub gives-found : (w : Write K V) → acceptable said (live_at eq settings k at h) ≡ Some w → (answer : Reply K V E) → Rattle.moka_model.specs.Calls.IsCopiedReply is_clone (Entered (entry_of w)) answer
      → Gives eq is_clone is_infallible settings steps (Begin k kind said at) (Ok answer)
  gives-found w is answer same = gives-accepted eq is_clone is_infallible settings steps (Begin k kind said at) (begun eq settings h k kind said at (Some w) opened_here) answer (accepted-is (Some w) is opened_here refl) same no-draw

  pub after-found : (w : Write K V) → acceptable said (live_at eq settings k at h) ≡ Some w → after eq settings (Begin k kind said at) steps ≡ (record { events = look_event said k at ∷ []; move = None }) ∷ steps
  after-found w is = ap (λ a. with_step a steps) (accepted-is (Some w) is opened_here refl)

  -- a begin that finds a live value that is acceptable does not wait, and may fail to clone it
  pub found-memory : (may_wait : Bool) → IsSome (acceptable said (live_at eq settings k at h)) → GivesHere may_wait (Err causes.OutOfMemory)
  found-memory may_wait there = go (acceptable said (live_at eq settings k at h)) refl there
    where
      go : (o : Option (Write K V)) → acceptable said (live_at eq settings k at h) ≡ o → IsSome o → GivesHere may_wait (Err causes.OutOfMemory)
      go None is some = cc
      go (Some w) is some =
          fails-to-begin eq is_clone is_infallible settings steps (Begin k kind said at) may_wait causes.OutOfMemory (tt, λ no. absurd no)
          (λ waits. subst (IfReplied IsWait) (accepted-is (Some w) is opened_here refl) waits)

  module _ (none : acceptable said (live_at eq settings k at h) ≡ None) where
    -- else it waits exactly where a turn is open
    closed-waits-not : opened_here ≡ None → ¬ (IfReplied IsWait (accepted eq settings steps (Begin k kind said at)))
    closed-waits-not opened waits = subst (IfReplied IsWait) (accepted-is None none None opened) waits

    open-waits : (t : Turn K V E) → opened_here ≡ Some t → IfReplied IsWait (accepted eq settings steps (Begin k kind said at))
    open-waits t opened = subst (IfReplied IsWait) (sym (accepted-is None none (Some t) opened)) tt

    pub refuses-open : (may_wait : Bool) → true ≡ (not may_wait && is_some opened_here) → GivesHere may_wait (Err causes.TurnIsOpen)
    refuses-open true told = cc
    refuses-open false told = go opened_here refl told
      where
        go : (o : Option (Turn K V E)) → opened_here ≡ o → true ≡ is_some o → GivesHere false (Err causes.TurnIsOpen)
        go None opened some = cc
        go (Some t) opened some = open-waits t opened

    pub refuses-memory : (may_wait : Bool) → false ≡ (not may_wait && is_some opened_here) → GivesHere may_wait (Err causes.OutOfMemory)
    refuses-memory true told = (tt, λ no. absurd no)
    refuses-memory false told = go opened_here refl told
      where
        go : (o : Option (Turn K V E)) → opened_here ≡ o → false ≡ is_some o → GivesHere false (Err causes.OutOfMemory)
        go None opened told = (closed-waits-not opened, (tt, λ counts. absurd counts))
        go (Some t) opened told = cc

  module _ (none : acceptable said (live_at eq settings k at h) ≡ None) (apart : AreApart (turns steps)) where
    abbrev waits : Turn K V E → Accepted K V E
    waits t = begun eq settings h k kind said at None (Some t)

    full : (t : Turn K V E) → opened_here ≡ Some t → found (λ u. u.name.number == t.name.number) (turns steps) ≡ Some t
    full t opened = found-numbered (turns steps) apart t (found-is (is_open_for eq kind k) (turns steps) t opened).0

    -- the open turn is waited for,
    pub gives-wait : (t : Turn K V E) → opened_here ≡ Some t → t.unspent ≢ greatest_number → (name : Name K) → name ≡ record { number = t.name.number; kind = kind; key = k } → Gives eq is_clone is_infallible settings steps (Begin k kind said at) (Ok (Wait name))
    gives-wait t opened few name named =
        gives-accepted eq is_clone is_infallible settings steps (Begin k kind said at) (waits t) (Wait name) (accepted-is None none (Some t) opened)
        (ap (λ n. let a : Reply K V E = Wait n in a) (named ∙ ap (λ (q : Kind). let n : Name K = record { number = t.name.number; kind = q; key = k } in n) (sym kind_is)))
        (λ out. let same = sym (full t opened) ∙ out.1 in few (ap (λ (o : Option (Turn K V E)). unspent_of o) same ∙ out.2))
      where
        kind_is : t.name.kind ≡ kind
        kind_is = same_kind-is t.name.kind kind (and_parts (same_kind t.name.kind kind) (eq t.name.key k) (and_parts (is_none t.end) (same_kind t.name.kind kind && eq t.name.key k) (found-is (is_open_for eq kind k) (turns steps) t opened).1).1).0

        unspent_of : Option (Turn K V E) → ℕ
        unspent_of None = 0
        unspent_of (Some u) = u.unspent

    pub after-wait : (t : Turn K V E) → opened_here ≡ Some t → after eq settings (Begin k kind said at) steps ≡ (record { events = look_event said k at ∷ []; move = Some (Waited t.name.number) }) ∷ steps
    after-wait t opened = ap (λ a. with_step a steps) (accepted-is None none (Some t) opened)

    -- or one is opened
    pub gives-run : opened_here ≡ None → next_number settings h ≢ greatest_number → (name : Name K) → name ≡ record { number = next_number settings h; kind = kind; key = k } → Gives eq is_clone is_infallible settings steps (Begin k kind said at) (Ok (Run name None))
    gives-run opened some name named =
        gives-accepted eq is_clone is_infallible settings steps (Begin k kind said at) (begun eq settings h k kind said at None None) (Run name None) (accepted-is None none None opened) (named, tt) (λ out. some out.1)

    pub after-run : opened_here ≡ None → after eq settings (Begin k kind said at) steps
        ≡ (record { events = Drawn ∷ look_event said k at ∷ []; move = Some (Opened (record { number = next_number settings h; kind = kind; key = k }) false None) }) ∷ steps
    after-run opened = ap (λ a. with_step a steps) (accepted-is None none None opened)

    -- It fails if no sequence number is left, if it may not wait for the turn, or with `OutOfMemory`.
    pub gives-refused : (hash_of : K → ℕ) (opened_now : TurnKey K → Option (OpenTurn V)) (ended_now : ℕ → Option (EndedTurn K V E)) (q : TurnKey K) (number : ℕ) (may_wait : Bool) (o : Option (Turn K V E)) → opened_here ≡ o → number ≡ next_number settings h → (cause : Refused)
        → IsBegun (λ after. Represents eq is_clone hash_of after opened_now ended_now) q number may_wait (turns steps) o (Err cause) → GivesHere may_wait (Err cause)
    gives-refused hash_of opened_now ended_now q number may_wait None opened counted causes.OutOfMemory begins =
        fails-to-begin eq is_clone is_infallible settings steps (Begin k kind said at) may_wait causes.OutOfMemory (tt, λ no. absurd no) (closed-waits-not none opened)
    gives-refused hash_of opened_now ended_now q number may_wait None opened counted causes.NumbersUsedUp begins =
        fails-to-begin eq is_clone is_infallible settings steps (Begin k kind said at) may_wait causes.NumbersUsedUp
        (subst (Rattle.moka_model.specs.Calls.WantsNumber (next_number settings h) (turns steps)) (sym (accepted-is None none None opened)) (omega arith, sym counted ∙ begins))
        (closed-waits-not none opened)
    gives-refused hash_of opened_now ended_now q number may_wait None opened counted causes.UnknownTurn begins = absurd begins
    gives-refused hash_of opened_now ended_now q number may_wait None opened counted causes.UnknownTicket begins = absurd begins
    gives-refused hash_of opened_now ended_now q number may_wait None opened counted causes.TurnIsOpen begins = absurd begins
    gives-refused hash_of opened_now ended_now q number may_wait None opened counted causes.WaitsAbandoned begins = absurd begins
    gives-refused hash_of opened_now ended_now q number may_wait (Some t) opened counted causes.OutOfMemory begins = absurd begins
    gives-refused hash_of opened_now ended_now q number false (Some t) opened counted causes.NumbersUsedUp begins = let no = begins.0 in cc
    gives-refused hash_of opened_now ended_now q number true (Some t) opened counted causes.NumbersUsedUp begins =
        subst (Rattle.moka_model.specs.Calls.WantsNumber (next_number settings h) (turns steps)) (sym (accepted-is None none (Some t) opened)) (t, full t opened, begins.1)
    gives-refused hash_of opened_now ended_now q number may_wait (Some t) opened counted causes.UnknownTurn begins = absurd begins
    gives-refused hash_of opened_now ended_now q number may_wait (Some t) opened counted causes.UnknownTicket begins = absurd begins
    gives-refused hash_of opened_now ended_now q number may_wait (Some t) opened counted causes.WaitsAbandoned begins = absurd begins
    gives-refused hash_of opened_now ended_now q number true (Some t) opened counted causes.TurnIsOpen begins = let no = begins in cc
    gives-refused hash_of opened_now ended_now q number false (Some t) opened counted causes.TurnIsOpen begins = open-waits none t opened

-- what a begin in the table of turns says that returns a ticket
pub waits-told : {K V E : Type 0} (eq : K → K → Bool) (is_clone : V → V → Type 0) (hash_of : K → ℕ) (opened_now : TurnKey K → Option (OpenTurn V)) (ended_now : ℕ → Option (EndedTurn K V E)) (q : TurnKey K) (number : ℕ) (may_wait : Bool) (ts : List (Turn K V E)) (o : Option (Turn K V E)) (ticket : Ticket K) → IsBegun (λ after. Represents eq is_clone hash_of after opened_now ended_now) q number may_wait ts o (Ok (begun_turns.Wait ticket))
    → (t : Turn K V E) × (o ≡ Some t) × (may_wait ≡ true) × (ticket_name ticket ≡ name_of q t.name.number) × (t.unspent ≢ greatest_number) × Represents eq is_clone hash_of (moved (Waited t.name.number) ts) opened_now ended_now
waits-told eq is_clone hash_of opened_now ended_now q number may_wait ts None ticket begins = absurd begins
waits-told eq is_clone hash_of opened_now ended_now q number may_wait ts (Some t) ticket begins = (t, refl, begins.0, begins.1, begins.2, begins.3)

pub runs-told : {K V E : Type 0} (eq : K → K → Bool) (is_clone : V → V → Type 0) (hash_of : K → ℕ) (opened_now : TurnKey K → Option (OpenTurn V)) (ended_now : ℕ → Option (EndedTurn K V E)) (q : TurnKey K) (number : ℕ) (may_wait : Bool) (ts : List (Turn K V E)) (o : Option (Turn K V E)) (turn : handle.Turn K) → IsBegun (λ after. Represents eq is_clone hash_of after opened_now ended_now) q number may_wait ts o (Ok (begun_turns.Run turn))
    → (o ≡ None) × (turn_name turn ≡ name_of q number) × (number ≢ greatest_number) × Represents eq is_clone hash_of (moved (Opened (name_of q number) false None) ts) opened_now ended_now
runs-told eq is_clone hash_of opened_now ended_now q number may_wait ts None turn begins = (refl, begins.0, begins.1, begins.2)
runs-told eq is_clone hash_of opened_now ended_now q number may_wait ts (Some t) turn begins = absurd begins

-- after a call with a move a state stands for the steps that follow, where its view and its turns are theirs
pub move-stands : {K V E : Type 0} (eq : K → K → Bool) {is_clone : V → V → Type 0} (settings : Settings K V) (view : View K V) (rows left : List (Turn K V E)) (steps : List (AcceptedStep K V E)) → StandsFor eq is_clone settings (whole view rows) steps
    → (call : Call K V E) (events : List (Event K V)) (move : Move K V E) → after eq settings call steps ≡ (record { events = events; move = Some move }) ∷ steps
    → (new : View K V) → IsViewOf eq settings new (events ++ events_in steps) → Holds eq is_clone (moved move (turns steps)) left → StandsFor eq is_clone settings (whole new left) (after eq settings call steps)
move-stands eq {is_clone} settings view rows left steps stands call events move is new view_is holds =
    stands-moved eq settings view steps stands call new left
    (subst (λ (s : List (AcceptedStep _ _ _)). IsViewOf eq settings new (events_in s)) (sym is) view_is)
    (subst (λ (s : List (AcceptedStep _ _ _)). Holds eq is_clone (turns s) left) (sym is) holds)
