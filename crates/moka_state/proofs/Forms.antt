-- What a loader returns, by its begin and by the end of its turn.
use Rattle.std.proofs.Common.{◌≡◌, ◌≢◌, ℕ, Bool, true, false, Option, Some, None, option_map, List, [], ◌∷◌, ◌++◌, refl, sym, ap, ◌∙◌, subst, eq-eqb}
use Rattle.std.specs.Prelude.{Result, Ok, Err, OnOk, OnErr, IfOk, IfErr, IfSome, IsSome}
use Rattle.std.specs.Cmp.{IsEquivalence}
use Rattle.std.specs.Fn.{Mut}
use denote.Ref.{Bor}
use Rattle.moka_policy.specs.declared.policy.Refused.{Refused}
use Rattle.moka_policy.specs.declared.policy.Refused.TheVariants as causes
use Rattle.moka_model.specs.declared.turns.Kind.{Kind}
use Rattle.moka_model.specs.declared.turns.Kind.TheVariants.{With, Optionally, Try, Compute}
use Rattle.moka_model.specs.declared.turns.Outcome.{Outcome}
use Rattle.moka_model.specs.declared.turns.Outcome.TheVariants as outcomes
use Rattle.moka_model.specs.Lives.{Settings, Write}
use Rattle.moka_model.specs.Steps.{AcceptedStep, events_in, turns}
use Rattle.moka_model.specs.Turns.{Name, Turn, Opened, opening, fits, found, same_kind, is_open_for, is_open_as}
use Rattle.moka_model.specs.Calls.{Call, Accepted, Begin, Finish, Abandon, Run, acceptable, accepted, after, begun, live_at, new_name, with_step}
use Rattle.moka_model.specs.Calls as calls
use Rattle.moka_model.specs.StandsFor.{WholeView, StandsFor, IsReplyOf}
use Rattle.moka_state.specs.Begin.{IsSaidOf}
use Rattle.moka_state.specs.Given.{Gives, of_done}
use Rattle.moka_state.proofs.Begins.{begun-initializer}
use Rattle.moka_state.proofs.Finishes.{finish-memory}
use Rattle.moka_state.proofs.Turns.{no-less}

-- what a state stands for after an abandon, be its turn known or not
pub abandon-stands : {K V E : Type 0} (eq : K → K → Bool) (is_clone : V → V → Type 0) (is_infallible : V → Type 0) (settings : Settings K V) (steps : List (AcceptedStep K V E)) (view : WholeView K V E)
    (name : Name K) (result : Result (Unit {0}) Refused) → Gives eq is_clone is_infallible settings steps (Abandon name) (of_done result) → IfErr result (λ cause. cause ≡ causes.UnknownTurn)
    → (Follows Same : Type 0) → (Follows → StandsFor eq is_clone settings view (after eq settings (Abandon name) steps)) → (Same → StandsFor eq is_clone settings view steps) → OnOk result Follows → OnErr result Same → StandsFor eq is_clone settings view (after eq settings (Abandon name) steps)
abandon-stands eq is_clone is_infallible settings steps view name (Ok done) gives cause Follows Same follows same on_ok on_err = follows on_ok
abandon-stands eq is_clone is_infallible settings steps view name (Err refused) gives cause Follows Same follows same on_ok on_err =
    let unknown = rw cause at gives in
    subst (StandsFor eq is_clone settings view) (sym (ap (λ a. with_step a steps) unknown.0)) (same on_err)

-- what follows from what holds of a success
pub on-ok : {A B : Type 0} {P Q : Type 0} (result : Result A B) → (P → Q) → OnOk result P → OnOk result Q
on-ok (Ok a) implies p = implies p
on-ok (Err b) implies p = p

pub if-ok : {A B : Type 0} {P Q : A → Type 0} (result : Result A B) → ((a : A) → P a → Q a) → IfOk result P → IfOk result Q
if-ok (Ok a) implies p = implies a p
if-ok (Err b) implies p = p

pub if-some : {A : Type 0} {P Q : A → Type 0} (o : Option A) → ((a : A) → P a → Q a) → IfSome o P → IfSome o Q
if-some None implies p = p
if-some (Some a) implies p = implies a p

-- without a `replace_if`, nothing is said of the live value
pub unsaid : {K V F : Type 0} (call : Mut F (Bor V × Unit {0}) Bool) (replace_if : Option F) (live : Option (Write K V)) (said : Option Bool) → replace_if ≡ None → IsSaidOf call replace_if live said → said ≡ None
unsaid call replace_if None said none says = says
unsaid call None (Some w) said none says = says
unsaid call (Some f) (Some w) said none says = cc

same_kind-same : (a : Kind) → same_kind a a ≡ true
same_kind-same With = refl
same_kind-same Optionally = refl
same_kind-same Try = refl
same_kind-same Compute = refl

-- what passes a test at the end of a list is found, unless something before it is
found-last : {A : Type 0} (test : A → Bool) (xs : List A) (x : A) → test x ≡ true → IsSome (found test (xs ++ x ∷ []))
found-last test [] x is = rw is refl
found-last test (y ∷ ys) x is = go (test y) refl (found-last test ys x is)
  where
    go : (b : Bool) → test y ≡ b → IsSome (found test (ys ++ x ∷ [])) → IsSome (found test ((y ∷ ys) ++ x ∷ []))
    go true e later = rw e refl
    go false e later = rw e later

some-map : {A B : Type 0} (f : A → B) (o : Option A) → IsSome o → IsSome (option_map f o)
some-map f None is = cc
some-map f (Some a) is = refl

-- The turn that a begin has opened may be finished.
module _ {K V E : Type 0} (eq : K → K → Bool) (laws : IsEquivalence eq) (is_clone : V → V → Type 0) (is_infallible : V → Type 0) (settings : Settings K V) (steps : List (AcceptedStep K V E)) (k : K) (kind : Kind) (initializer : kind ≢ Compute) (said : Option Bool) (now : ℕ)
    (name : Name K) where
  abbrev the_begin : Call K V E
  the_begin = Begin k kind said now

  abbrev the_begun : Option (Write K V) → Option (Turn K V E) → Accepted K V E
  the_begun = begun eq settings (events_in steps) k kind said now

  pub finish-is-known : Gives eq is_clone is_infallible settings steps the_begin (Ok (Run name None)) → (outcome : Outcome V E) → fits name.kind outcome ≡ true → (at : ℕ) → IsSome (accepted eq settings (after eq settings the_begin steps) (Finish name outcome at))
  finish-is-known gives outcome fit at =
      go (acceptable said (live_at eq settings k now (events_in steps))) (found (is_open_for eq kind k) (turns steps))
      (ap Some (begun-initializer eq settings (events_in steps) (turns steps) k kind said now initializer)) gives.0
    where
      opens : (n : Name K) → name ≡ n → (step : AcceptedStep K V E) → step.move ≡ Some (Opened n false None) → IsSome (accepted eq settings (step ∷ steps) (Finish name outcome at))
      opens n named step moves =
          let same : is_open_as {V = V} {E = E} eq n (opening n false None) ≡ true = rw (eq-eqb n.number n.number refl, same_kind-same n.kind, laws.refl n.key) refl in
          let is_its : is_open_as {V = V} {E = E} eq name (opening n false None) ≡ true = subst (λ m. is_open_as {V = V} {E = E} eq m (opening n false None) ≡ true) (sym named) same in
          rw (fit, moves) (some-map _ _ (found-last (is_open_as eq name) (turns steps) (opening n false None) is_its))

      go : (o : Option (Write K V)) (t : Option (Turn K V E)) → accepted eq settings steps the_begin ≡ Some (the_begun o t) → IsReplyOf is_clone (accepted eq settings steps the_begin) (Run name None) → IsSome (accepted eq settings (after eq settings the_begin steps) (Finish name outcome at))
      go (Some w) t is answers = let no = subst (λ a. IsReplyOf is_clone a (Run name None)) is answers in cc
      go None (Some t) is answers = let no = subst (λ a. IsReplyOf is_clone a (Run name None)) is answers in cc
      go None None is answers =
          let it = subst (λ a. IsReplyOf is_clone a (Run name None)) is answers in
          subst (λ a. IsSome (accepted eq settings (with_step a steps) (Finish name outcome at))) (sym is)
          (opens (new_name eq settings (events_in steps) kind k) it.0 (the_begun None None).step refl)

-- A finish of an open turn with an error may fail with `OutOfMemory`.
pub failed-memory : {K V E : Type 0} (eq : K → K → Bool) (is_clone : V → V → Type 0) (is_infallible : V → Type 0) (settings : Settings K V) (steps : List (AcceptedStep K V E)) (name : Name K) (error : E) (at : ℕ) → fits {V = V} name.kind (outcomes.Failed error) ≡ true
    → IsSome (accepted eq settings steps (Finish name (outcomes.Failed error) at)) → Gives eq is_clone is_infallible settings steps (Finish name (outcomes.Failed error) at) (Err causes.OutOfMemory)
failed-memory {K} {V} {E} eq is_clone is_infallible settings steps name error at fit known = go (found (is_open_as eq name) (turns steps)) refl
  where
    go : (o : Option (Turn K V E)) → found (is_open_as eq name) (turns steps) ≡ o → Gives eq is_clone is_infallible settings steps (Finish name (outcomes.Failed error) at) (Err causes.OutOfMemory)
    go None is = let no = rw (fit, is) at known in cc
    go (Some t) is = finish-memory eq settings steps name (outcomes.Failed error) at fit is_clone is_infallible t is tt (λ out. no-less out.0)
