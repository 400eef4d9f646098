-- Calls of turns as data: what a begin does whose caller has said beforehand whether to replace a live value, and what the state
-- stands for after a reply.
use Rattle.std.proofs.Common.{◌≡◌, ◌≢◌, ℕ, max, Bool, true, false, cond, Option, Some, None, List, [], ◌∷◌, ◌++◌, refl, sym, ap, ◌∙◌, subst, inl, inr, ◌⊎◌}
use Rattle.std.specs.Prelude.{Result, Ok, Err, OnOk, OnErr, IsErr}
use Rattle.std.specs.Cmp.{IsEquivalence}
use Rattle.std.specs.Fn.{CalledAt, Mut}
use Rattle.std.specs.List.{filter}
use Rattle.std.specs.Option.{option_to_list}
use denote.Ref.{Bor}
use Rattle.moka_model.specs.declared.turns.Kind.{Kind}
use Rattle.moka_model.specs.declared.turns.Kind.TheVariants.{Compute}
use Rattle.moka_model.specs.Lives.{Settings, Write, is_live, live_one, after_look}
use Rattle.moka_model.specs.Events.{Event, Looked, TurnedDown, Drawn, latest}
use Rattle.moka_model.specs.Orders.{orders, standing, is_hit, used_where}
use Rattle.moka_model.specs.Removals.{notices_left}
use Rattle.moka_model.specs.Numbers.{next_number}
use Rattle.moka_model.specs.Turns.{Turn, found, is_open_for}
use Rattle.moka_model.specs.Steps.{AcceptedStep, events_in, turns}
use Rattle.moka_model.specs.Calls as spec
use Rattle.moka_model.specs.Calls.{Call, Begin, BeginCompute, begun, acceptable, live_at, accepted, after, with_step, IsLegal, IsCopiedReply, WantsNumber}
use Rattle.moka_model.specs.StandsFor.{Books, books_of, WholeView, StandsFor, Follows, IsReplyOf}
use Rattle.moka_model.proofs.Callers.{held-orders, filter-both, IsLegal-after}
use Rattle.moka_policy.specs.declared.policy.Refused.{Refused}
use Rattle.moka_policy.specs.declared.policy.Refused.TheVariants as causes
use Rattle.moka_state.specs.BegunOf.{BegunOf}
use Rattle.moka_single_flight.specs.declared.replies.Begun.TheVariants as begins
use Rattle.moka_state.specs.Begin.{IsSaidOf, GivesBegun}
use Rattle.moka_state.specs.Given.{Gives, of_begin}
use Rattle.moka_state.specs.Replies.{after_given, HasNoNotice, ReplyEntryKeeps}
use Rattle.moka_state.specs.Step.{ReplyKeeps}
use Rattle.moka_state.specs.declared.step.Step.TheVariants as calls
use Rattle.moka_state.specs.declared.step.Reply.{Reply}
use Rattle.moka_state.specs.declared.step.Reply.TheVariants.{Entered, Noticed, Run}
use Rattle.moka_turns.specs.declared.turn_name.TurnName.{TurnName}
use Rattle.moka_model.specs.declared.turns.Outcome.{Outcome}
use Rattle.std.specs.declared.sync.Arc.{Arc}
use Rattle.std.specs.declared.alloc.Global.{Global}
use Rattle.moka_state.proofs.Begins.{begun-initializer}
use Rattle.moka_state.proofs.Orders.{used_where-none}

-- A lookup of a key without a live write.
module _ {K V : Type 0} (eq : K → K → Bool) (laws : IsEquivalence eq) (settings : Settings K V) (k : K) (at : ℕ) (h : List (Event K V)) (none : live_at eq settings k at h ≡ None) where
  abbrev moment : ℕ
  moment = max (latest h) at

  none-alive : (o : Option (Write K V)) → live_one settings moment o ≡ None → filter (λ w. is_live settings w moment) (option_to_list o) ≡ []
  none-alive None is = refl
  none-alive (Some w) is = go (is_live settings w moment) is
    where
      go : (b : Bool) → ◌≡◌ {A = Option (Write K V)} (cond b (Some w) None) None → ◌≡◌ {A = List (Write K V)} (cond b (w ∷ []) []) []
      go true is = cc
      go false is = refl

  -- it leaves the orders as they are,
  unhit : used_where eq settings (is_hit eq settings k moment) (after_look settings moment) (orders eq settings h) ≡ orders eq settings h
  unhit =
      used_where-none eq settings (is_hit eq settings k moment) (after_look settings moment) (orders eq settings h)
      (filter-both (λ (w : Write K V). eq w.key k) (λ w. is_live settings w moment) ((orders eq settings h).admitted ++ (orders eq settings h).waiting)
      ∙ ap (filter (λ w. is_live settings w moment)) (held-orders eq settings laws k h)
      ∙ none-alive (standing eq settings k h) none)

  -- so its books are those of a lookup whose value is turned down, before a number is drawn and after it
  pub books-unhit : books_of eq settings (Looked k at ∷ h) ≡ books_of eq settings (TurnedDown k at ∷ h)
  books-unhit =
      let e : List (Event K V) = TurnedDown k at ∷ h in
      ap (λ q. let b : Books K V = record { orders = q; notices = notices_left eq settings e; latest = latest e; next_number = next_number settings e } in b) unhit

  pub books-unhit-drawn : books_of eq settings (Drawn ∷ Looked k at ∷ h) ≡ books_of eq settings (Drawn ∷ TurnedDown k at ∷ h)
  books-unhit-drawn =
      let e : List (Event K V) = Drawn ∷ TurnedDown k at ∷ h in
      ap (λ q. let b : Books K V = record { orders = q; notices = notices_left eq settings e; latest = latest e; next_number = next_number settings e } in b) unhit

unacceptable : {K V : Type 0} (said : Option Bool) → acceptable {K = K} {V = V} said None ≡ None
unacceptable None = refl
unacceptable (Some false) = refl
unacceptable (Some true) = refl

-- A begin at a key of which no write is live: what its caller says of a live value makes no difference.
module _ {K V E : Type 0} (eq : K → K → Bool) (settings : Settings K V) (steps : List (AcceptedStep K V E)) (k : K) (kind : Kind) (at : ℕ) (initializer : kind ≢ Compute) (none : live_at eq settings k at (events_in steps) ≡ None) where
  abbrev opened_here : Option (Turn K V E)
  opened_here = found (is_open_for eq kind k) (turns steps)

  accepted-unsaid : (said : Option Bool) → accepted eq settings steps (Begin k kind said at) ≡ Some (begun eq settings (events_in steps) k kind said at None opened_here)
  accepted-unsaid said =
      ap Some (begun-initializer eq settings (events_in steps) (turns steps) k kind said at initializer
      ∙ ap (λ w. begun eq settings (events_in steps) k kind said at w opened_here) (ap (acceptable said) none ∙ unacceptable said))

  after-unsaid : (said : Option Bool) → after eq settings (Begin k kind said at) steps ≡ (begun eq settings (events_in steps) k kind said at None opened_here).step ∷ steps
  after-unsaid said = ap (λ a. with_step a steps) (accepted-unsaid said)

  -- it wants the same numbers,
  wants-unsaid : (next : ℕ) (b : Bool) → WantsNumber next (turns steps) (accepted eq settings steps (Begin k kind (Some b) at)) → WantsNumber next (turns steps) (accepted eq settings steps (Begin k kind None at))
  wants-unsaid next b wants = subst (WantsNumber next (turns steps)) (sym (accepted-unsaid None)) (same opened_here b (subst (WantsNumber next (turns steps)) (accepted-unsaid (Some b)) wants))
    where
      same : (o : Option (Turn K V E)) (b : Bool) → WantsNumber next (turns steps) (Some (begun eq settings (events_in steps) k kind (Some b) at None o)) → WantsNumber next (turns steps) (Some (begun eq settings (events_in steps) k kind None at None o))
      same None true wants = wants
      same None false wants = wants
      same (Some t) b wants = wants

  said-wants : (next : ℕ) (b : Bool) → WantsNumber next (turns steps) (accepted eq settings steps (Begin k kind None at)) → WantsNumber next (turns steps) (accepted eq settings steps (Begin k kind (Some b) at))
  said-wants next b wants = subst (WantsNumber next (turns steps)) (sym (accepted-unsaid (Some b))) (same opened_here b (subst (WantsNumber next (turns steps)) (accepted-unsaid None) wants))
    where
      same : (o : Option (Turn K V E)) (b : Bool) → WantsNumber next (turns steps) (Some (begun eq settings (events_in steps) k kind None at None o)) → WantsNumber next (turns steps) (Some (begun eq settings (events_in steps) k kind (Some b) at None o))
      same None true wants = wants
      same None false wants = wants
      same (Some t) b wants = wants

  -- gives the same,
  gives-unsaid : (is_clone : V → V → Type 0) (is_infallible : V → Type 0) (b : Bool) (given : Result (spec.Reply K V E) Refused) → Gives eq is_clone is_infallible settings steps (Begin k kind None at) given
      → Gives eq is_clone is_infallible settings steps (Begin k kind (Some b) at) given
  gives-unsaid is_clone is_infallible b (Ok answer) gives = (
    subst (λ a. IsReplyOf is_clone a answer) (sym (accepted-unsaid (Some b))) (same opened_here (subst (λ a. IsReplyOf is_clone a answer) (accepted-unsaid None) gives.0)),
    λ out. gives.1 (wants-unsaid (next_number settings (events_in steps)) b out),
  )
    where
      same : (o : Option (Turn K V E)) → IsCopiedReply is_clone (begun eq settings (events_in steps) k kind None at None o).reply answer → IsCopiedReply is_clone (begun eq settings (events_in steps) k kind (Some b) at None o).reply answer
      same None is = is
      same (Some t) is = is
  gives-unsaid is_clone is_infallible b (Err causes.OutOfMemory) gives = (tt, λ no. absurd no)
  gives-unsaid is_clone is_infallible b (Err causes.NumbersUsedUp) gives = said-wants (next_number settings (events_in steps)) b gives
  gives-unsaid is_clone is_infallible b (Err causes.UnknownTurn) gives = let no = gives.1 in cc
  gives-unsaid is_clone is_infallible b (Err causes.UnknownTicket) gives = let no = gives.1 in cc
  gives-unsaid is_clone is_infallible b (Err causes.TurnIsOpen) gives = absurd gives
  gives-unsaid is_clone is_infallible b (Err causes.WaitsAbandoned) gives = absurd gives

  -- and leaves a state that stands for the same
  stands-unsaid : IsEquivalence eq → {is_clone : V → V → Type 0} (view : WholeView K V E) (b : Bool) → IsLegal eq settings steps → StandsFor eq is_clone settings view (after eq settings (Begin k kind None at) steps)
      → StandsFor eq is_clone settings view (after eq settings (Begin k kind (Some b) at) steps)
  stands-unsaid laws {is_clone} view b legal stands =
      subst (StandsFor eq is_clone settings view) (sym (after-unsaid (Some b)))
      (same opened_here b (subst (StandsFor eq is_clone settings view) (after-unsaid None) stands) (subst (IsLegal eq settings) (after-unsaid (Some b)) (IsLegal-after eq settings (Begin k kind (Some b) at) steps legal)))
    where
      same : (o : Option (Turn K V E)) (b : Bool) → StandsFor eq is_clone settings view ((begun eq settings (events_in steps) k kind None at None o).step ∷ steps) → IsLegal eq settings ((begun eq settings (events_in steps) k kind (Some b) at None o).step ∷ steps)
          → StandsFor eq is_clone settings view ((begun eq settings (events_in steps) k kind (Some b) at None o).step ∷ steps)
      same None false s l = s
      same (Some t) false s l = s
      same None true s l = record { legal = l; settings = s.settings; books = s.books ∙ books-unhit-drawn eq laws settings k at (events_in steps) none; frequency = s.frequency; turns = s.turns }
      same (Some t) true s l = record { legal = l; settings = s.settings; books = s.books ∙ books-unhit eq laws settings k at (events_in steps) none; frequency = s.frequency; turns = s.turns }

-- The caller has said this of the live value; or no value is live, and nothing was said.
abbrev pub IsSaidOrUnasked : {K V : Type 0} → Bool → Option (Write K V) → Option Bool → Type 0
IsSaidOrUnasked says live said = (said ≡ Some says) ⊎ ((live ≡ None) × (said ≡ None))

pub said-or-unasked : {K V F : Type 0} (call : Mut F (Bor V × Unit {0}) Bool) (f : F) (says : Bool) → ((v : V) (b : Bool) (left : F) → CalledAt call f v b left → b ≡ says)
    → (live : Option (Write K V)) (said : Option Bool) → IsSaidOf call (Some f) live said → IsSaidOrUnasked says live said
said-or-unasked call f says told None said is = inr (refl, is)
said-or-unasked call f says told (Some w) None is = absurd is
said-or-unasked call f says told (Some w) (Some b) is = inl (ap Some (told w.value b is.0 is.1))

pub unasked : {K V F : Type 0} (call : Mut F (Bor V × Unit {0}) Bool) (live : Option (Write K V)) (said : Option Bool) → IsSaidOf call None live said → said ≡ None
unasked call None said is = is
unasked call (Some w) said is = is

-- the result of a begin that may wait is one of the specification
pub begun-gives : {K V E : Type 0} (eq : K → K → Bool) (is_clone : V → V → Type 0) (is_infallible : V → Type 0) (settings : Settings K V) (steps : List (AcceptedStep K V E)) (call : Call K V E) (result : Result (BegunOf K V) Refused)
    → GivesBegun eq is_clone is_infallible settings steps call true result → Gives eq is_clone is_infallible settings steps call (of_begin result)
begun-gives eq is_clone is_infallible settings steps call (Ok (begins.Found entry)) is = is
begun-gives eq is_clone is_infallible settings steps call (Ok (begins.Run turn)) is = is
begun-gives eq is_clone is_infallible settings steps call (Ok (begins.Wait ticket)) is = is.1
begun-gives eq is_clone is_infallible settings steps call (Err cause) is = is

-- a begin of a compute is one that keeps no copy
pub compute-gives : {K V E : Type 0} (eq : K → K → Bool) (is_clone : V → V → Type 0) (is_infallible : V → Type 0) (settings : Settings K V) (steps : List (AcceptedStep K V E)) (k : K) (kind : Kind) → kind ≡ Compute → (replace : Option Bool) (at : ℕ) (given : Result (spec.Reply K V E) Refused)
    → Gives eq is_clone is_infallible settings steps (BeginCompute k false at) given → Gives eq is_clone is_infallible settings steps (Begin k kind replace at) given
compute-gives {K} {V} {E} eq is_clone is_infallible settings steps k kind is replace at given gives = subst (λ (q : Kind). Gives eq is_clone is_infallible settings steps (Begin k q replace at) given) (sym is) (go given gives)
  where
    go : (given : Result (spec.Reply K V E) Refused) → Gives eq is_clone is_infallible settings steps (BeginCompute k false at) given → Gives eq is_clone is_infallible settings steps (Begin k Compute replace at) given
    go (Ok answer) gives = gives
    go (Err causes.OutOfMemory) gives = gives
    go (Err causes.NumbersUsedUp) gives = gives
    go (Err causes.UnknownTurn) gives = gives
    go (Err causes.UnknownTicket) gives = gives
    go (Err causes.TurnIsOpen) gives = gives
    go (Err causes.WaitsAbandoned) gives = gives

pub after-compute : {K V E : Type 0} (eq : K → K → Bool) (settings : Settings K V) (steps : List (AcceptedStep K V E)) (k : K) (kind : Kind) → kind ≡ Compute → (replace : Option Bool) (at : ℕ)
    → after eq settings (BeginCompute k false at) steps ≡ after eq settings (Begin k kind replace at) steps
after-compute eq settings steps k kind is replace at = ap (λ (q : Kind). after eq settings (Begin k q replace at) steps) (sym is)

-- A begin whose caller says the same of any live value.
module _ {K V E : Type 0} (eq : K → K → Bool) (settings : Settings K V) (steps : List (AcceptedStep K V E)) (k : K) (kind : Kind) (at : ℕ) (initializer : kind ≢ Compute) (says : Bool) where
  pub gives-said : (is_clone : V → V → Type 0) (is_infallible : V → Type 0) (said : Option Bool) → IsSaidOrUnasked says (live_at eq settings k at (events_in steps)) said → (given : Result (spec.Reply K V E) Refused)
      → Gives eq is_clone is_infallible settings steps (Begin k kind said at) given → Gives eq is_clone is_infallible settings steps (Begin k kind (Some says) at) given
  gives-said is_clone is_infallible said (inl is) given gives = subst (λ s. Gives eq is_clone is_infallible settings steps (Begin k kind s at) given) is gives
  gives-said is_clone is_infallible said (inr (none, is)) given gives =
      gives-unsaid eq settings steps k kind at initializer none is_clone is_infallible says given (subst (λ s. Gives eq is_clone is_infallible settings steps (Begin k kind s at) given) is gives)

  pub stands-said : IsEquivalence eq → {is_clone : V → V → Type 0} (said : Option Bool) → IsSaidOrUnasked says (live_at eq settings k at (events_in steps)) said → (view : WholeView K V E) → IsLegal eq settings steps
      → StandsFor eq is_clone settings view (after eq settings (Begin k kind said at) steps) → StandsFor eq is_clone settings view (after eq settings (Begin k kind (Some says) at) steps)
  stands-said laws {is_clone} said (inl is) view legal stands = subst (λ s. StandsFor eq is_clone settings view (after eq settings (Begin k kind s at) steps)) is stands
  stands-said laws {is_clone} said (inr (none, is)) view legal stands =
      stands-unsaid eq settings steps k kind at initializer none laws view says legal (subst (λ s. StandsFor eq is_clone settings view (after eq settings (Begin k kind s at) steps)) is stands)

-- What a state stands for after a call that `follows` if it succeeds and changes nothing if it fails.
pub given-stands : {A B S K V E : Type 0} (eq : K → K → Bool) {is_clone : V → V → Type 0} (view : S → WholeView K V E) (old new : S) (call : Call K V E) (given : Result A B) → OnOk given (Follows eq is_clone (view old) call (view new)) → OnErr given (new ≡ old)
    → (settings : Settings K V) (steps : List (AcceptedStep K V E)) → StandsFor eq is_clone settings (view old) steps → StandsFor eq is_clone settings (view new) (after_given eq settings call given steps)
given-stands eq view old new call (Ok given) follows same settings steps stands = follows settings steps stands
given-stands eq {is_clone} view old new call (Err refused) follows same settings steps stands = subst (λ s. StandsFor eq is_clone settings (view s) steps) (sym same) stands

pub OnOk-by : {A B : Type 0} {P Q : Type 0} (r : Result A B) → (P → Q) → OnOk r P → OnOk r Q
OnOk-by (Ok x) more is = more is
OnOk-by (Err e) more is = tt

-- what holds if a call fails
pub OnErr-so : {A B : Type 0} {P : Type 0} (r : Result A B) → OnErr r P → IsErr r → P
OnErr-so (Ok x) is refused = let off : false ≡ true = refused in cc
OnErr-so (Err e) is refused = is

-- what the caller gets from a call of a turn
module _ {K V C H W X P F L T E S : Type 0} (keeps : K → V → Type 0) where
  pub begin-keeps : (key : Arc K Global) (kind : Kind) (replace : Option Bool) (now : ℕ) (reply : Reply K V C H W X P F L T E S) → ReplyEntryKeeps keeps reply → ReplyKeeps keeps (calls.Begin key kind replace now) reply
  begin-keeps key kind replace now (Entered entry) is = is
  begin-keeps key kind replace now (Run name (Some entry)) is = is
  begin-keeps key kind replace now (Noticed notice) is = absurd is
  begin-keeps key kind replace now reply is = tt

  pub compute-keeps : (key : Arc K Global) (keep : Bool) (now : ℕ) (reply : Reply K V C H W X P F L T E S) → ReplyEntryKeeps keeps reply → ReplyKeeps keeps (calls.BeginCompute key keep now) reply
  compute-keeps key keep now (Run name (Some entry)) is = is
  compute-keeps key keep now (Noticed notice) is = absurd is
  compute-keeps key keep now reply is = tt

  pub finish-keeps : (name : TurnName K) (outcome : Outcome V (Arc E Global)) (now : ℕ) (reply : Reply K V C H W X P F L T E S) → HasNoNotice reply → ReplyKeeps keeps (calls.Finish name outcome now) reply
  finish-keeps name outcome now (Noticed notice) is = absurd is
  finish-keeps name outcome now reply is = tt

  pub abandon-keeps : (name : TurnName K) (reply : Reply K V C H W X P F L T E S) → HasNoNotice reply → ReplyKeeps keeps (calls.Abandon name) reply
  abandon-keeps name (Noticed notice) is = absurd is
  abandon-keeps name reply is = tt

  pub collect-keeps : (name : TurnName K) (reply : Reply K V C H W X P F L T E S) → HasNoNotice reply → ReplyKeeps keeps (calls.Collect name) reply
  collect-keeps name (Noticed notice) is = absurd is
  collect-keeps name reply is = tt

  pub leave-keeps : (name : TurnName K) (reply : Reply K V C H W X P F L T E S) → HasNoNotice reply → ReplyKeeps keeps (calls.Leave name) reply
  leave-keeps name (Noticed notice) is = absurd is
  leave-keeps name reply is = tt
