-- What a state stands for once a call without events has moved a turn.
use Rattle.std.proofs.Common.{◌≡◌, ℕ, Bool, true, false, Option, Some, None, is_some, option_map, List, [], ◌∷◌, ◌++◌, ◌<◌, refl, sym, ap, ◌∙◌, subst, arith}
use Rattle.std.specs.Option.{MatchOption}
use Rattle.std.specs.Cmp.{IsEquivalence}
use Rattle.moka_model.specs.Lives.{Settings}
use Rattle.moka_model.specs.Turns.{Turn, Move, moved}
use Rattle.moka_model.specs.Steps.{AcceptedStep, events_in, turns}
use Rattle.std.specs.Prelude.{Result, Ok, Err}
use Rattle.moka_policy.specs.declared.policy.Refused.{Refused}
use Rattle.moka_policy.specs.declared.policy.Refused.TheVariants.{OutOfMemory}
use Rattle.moka_model.specs.Numbers.{next_number}
use Rattle.moka_model.specs.Calls.{Call, Reply, Accepted, accepted, after, with_step, IsLegal, IsCopiedReply, MayTakeMemory, WantsNumber, WantsNumberBy, Holds}
use Rattle.moka_model.specs.StandsFor.{IsReplyOf}
use Rattle.moka_state.specs.Given.{Gives}
use Rattle.moka_model.specs.StandsFor.{View, StandsFor, Books}
use Rattle.moka_model.proofs.Callers.{IsViewOf, whole, view-of, stands-moved, legal-fit, turns-apart, one_is_open}
use Rattle.moka_turns.specs.declared.turn_key.TurnKey.{TurnKey}
use Rattle.moka_turns.specs.declared.table.OpenTurn.{OpenTurn}
use Rattle.moka_turns.specs.declared.table.EndedTurn.{EndedTurn}
use Rattle.moka_turns.specs.Represents.{AreSound, turns_in}
use Rattle.moka_table.specs.Table.{Contents, entries}
use Rattle.moka_expiration.specs.StateData.{SettingsData, StateData}
use Rattle.moka_state.specs.State.{books_by}

-- what the turns of a legal list are
pub sound-turns : {K V E : Type 0} (eq : K → K → Bool) → IsEquivalence eq → (settings : Settings K V) (steps : List (AcceptedStep K V E)) → IsLegal eq settings steps → AreSound eq (turns steps)
sound-turns eq laws settings steps legal = let fit = legal-fit eq settings steps legal in (turns-apart eq settings steps fit, one_is_open eq settings laws steps fit)

-- the flag of a search says whether something was found
pub told : {A : Type 0} (Q : A → Type 0) (o : Option A) (b : Bool) → MatchOption o (b ≡ false) (λ a. (b ≡ true) × Q a) → b ≡ is_some o
told Q None b is = is
told Q (Some a) b is = is.0

-- A call of a search moves the turn that it finds; if it finds none, it fails for its name.
module _ {K V E : Type 0} (eq : K → K → Bool) {is_clone : V → V → Type 0} (settings : Settings K V) (view : View K V) (rows left : List (Turn K V E)) (steps : List (AcceptedStep K V E))
    (stands : StandsFor eq is_clone settings (whole view rows) steps) where
  pub stands-by : (call : Call K V E) (move : Move K V E) → after eq settings call steps ≡ (record { events = []; move = Some move }) ∷ steps → Holds eq is_clone (moved move (turns steps)) left
      → StandsFor eq is_clone settings (whole view left) (after eq settings call steps)
  stands-by call move is holds =
      stands-moved eq settings view steps stands call view left
      (subst (λ (s : List (AcceptedStep K V E)). IsViewOf eq settings view (events_in s)) (sym is) (view-of eq settings view steps stands))
      (subst (λ (s : List (AcceptedStep K V E)). Holds eq is_clone (turns s) left) (sym is) holds)

  pub stands-found : (call : Call K V E) (makes : Turn K V E → Accepted K V E) (o : Option (Turn K V E)) → accepted eq settings steps call ≡ option_map makes o
      → (move : Turn K V E → Move K V E) → ((t : Turn K V E) → (makes t).step ≡ record { events = []; move = Some (move t) })
      → (Keeps : List (Turn K V E) → Type 0) → ((ts : List (Turn K V E)) → Keeps ts → Holds eq is_clone ts left)
      → (result : Bool) → (result ≡ false → left ≡ rows) → MatchOption o (result ≡ false) (λ t. (result ≡ true) × Keeps (moved (move t) (turns steps)))
      → StandsFor eq is_clone settings (whole view left) (after eq settings call steps)
  stands-found call makes None is move step Keeps holds result same found_it =
      let nothing : after eq settings call steps ≡ steps = ap (λ a. with_step a steps) is in
      subst (λ (s : List (AcceptedStep K V E)). StandsFor eq is_clone settings (whole view left) s) (sym nothing)
      (subst (λ l. StandsFor eq is_clone settings (whole view l) steps) (sym (same found_it)) stands)
  stands-found call makes (Some t) is move step Keeps holds result same found_it =
      stands-by call (move t) (ap (λ a. with_step a steps) is ∙ ap (λ s. s ∷ steps) (step t)) (holds (moved (move t) (turns steps)) found_it.1)

-- a state whose turns are the same
pub with-turns : {K V H W X F E : Type 0} (settings : SettingsData H W X) (books : Books K V) (source : F) (room : ℕ) (left rows : List (Turn K V E)) → left ≡ rows
    → (let a : StateData K V H W X F E = record { settings = settings; books = books; source = source; initial_room = room; turns = left } in a) ≡ record { settings = settings; books = books; source = source; initial_room = room; turns = rows }
with-turns {K} {V} {H} {W} {X} {F} {E} settings books source room left rows same = ap (λ l. let a : StateData K V H W X F E = record { settings = settings; books = books; source = source; initial_room = room; turns = l } in a) same

-- a table whose entries are the same keeps the same turns
pub same-turns : {K V E : Type 0} (hash_of : K → ℕ) (opened before : List (TurnKey K × OpenTurn V)) (ended ended_before : List (ℕ × EndedTurn K V E)) → opened ≡ before → ended ≡ ended_before → turns_in hash_of opened ended ≡ turns_in hash_of before ended_before
same-turns hash_of opened before ended ended_before a b = ap (λ l. turns_in hash_of l ended) a ∙ ap (λ l. turns_in hash_of before l) b

both-empty : {A : Type 0} (xs ys : List A) → xs ++ ys ≡ [] → (xs ≡ []) × (ys ≡ [])
both-empty [] ys e = (refl, e)
both-empty (x ∷ xs) ys e = cc

-- the books of a new state
pub new-books : {K V : Type 0} (contents : Contents K V) (number : ℕ) → entries contents ≡ [] → contents.notices ≡ [] → books_by contents 0 number ≡ record { orders = record { admitted = []; waiting = [] }; notices = []; latest = 0; next_number = number }
new-books contents number none no_notices = let both = both-empty contents.admitted contents.waiting none in rw (both.0, both.1, no_notices) refl

-- What a call without a number to draw gives, by what a search finds.
module _ {K V E : Type 0} (eq : K → K → Bool) (is_clone : V → V → Type 0) (is_infallible : V → Type 0) (settings : Settings K V) (steps : List (AcceptedStep K V E)) (call : Call K V E) where
  abbrev GivesThis : Result (Reply K V E) Refused → Type 0
  GivesThis = Gives eq is_clone is_infallible settings steps call

  -- it is accepted, with a reply,
  pub gives-accepted : (it : Accepted K V E) (answer : Reply K V E) → accepted eq settings steps call ≡ Some it → IsCopiedReply is_clone it.reply answer
      → ¬ (WantsNumberBy (next_number settings (events_in steps)) (turns steps) it.step.events it.step.move) → GivesThis (Ok answer)
  gives-accepted it answer is same draws =
      (subst (λ a. IsReplyOf is_clone a answer) (sym is) same, λ out. draws (subst (WantsNumber (next_number settings (events_in steps)) (turns steps)) is out))

  -- or it may take memory
  pub gives-memory : (it : Accepted K V E) → accepted eq settings steps call ≡ Some it → MayTakeMemory eq is_clone is_infallible settings steps call
      → ¬ (WantsNumberBy (next_number settings (events_in steps)) (turns steps) it.step.events it.step.move) → GivesThis (Err OutOfMemory)
  gives-memory it is may draws = (may, λ _ out. draws (subst (WantsNumber (next_number settings (events_in steps)) (turns steps)) is out))

-- what a search has found, if its flag is true
pub found-told : {A : Type 0} (Q : A → Type 0) (o : Option A) (b : Bool) → MatchOption o (b ≡ false) (λ a. (b ≡ true) × Q a) → b ≡ true → (a : A) × (o ≡ Some a) × Q a
found-told Q None b is on = let off : false ≡ true = sym is ∙ on in cc
found-told Q (Some a) b is on = (a, refl, is.1)

pub none-told : {A : Type 0} (Q : A → Type 0) (o : Option A) (b : Bool) → MatchOption o (b ≡ false) (λ a. (b ≡ true) × Q a) → b ≡ false → o ≡ None
none-told Q None b is off = refl
none-told Q (Some a) b is off = let on : true ≡ false = sym is.0 ∙ off in cc

-- zero is not less than zero
pub no-less : 0 < 0 → ⊥
no-less less = absurd (omega (arith, less))
