-- Replies that are one of the specification, and records that grow.
use Rattle.std.proofs.Common.{◌≡◌, ◌⊎◌, Bool, List, [], ◌∷◌, ◌++◌, map, Option, Some, None, option_map, refl, sym, ap, ◌∙◌, subst, inl, inr}
use Rattle.std.specs.Prelude.{IfSome, IfOk, Result, Ok, Err}
use Rattle.std.specs.List.{AllByRecursion}
use Rattle.moka_policy.specs.declared.policy.Refused.TheVariants as causes
use Rattle.moka_predicate_ids.specs.declared.predicate_error.PredicateError.TheVariants as predicates
use Rattle.moka_model.specs.declared.notification.Notice.{Notice}
use Rattle.moka_model.specs.Lives.{Settings}
use Rattle.moka_model.specs.Removals.{Removal}
use Rattle.moka_model.specs.Steps.{AcceptedStep}
use Rattle.moka_model.specs.Calls.{Call, Accepted, accepted, reply_of, IsCopiedReply}
use Rattle.moka_model.specs.Calls as calls
use Rattle.moka_model.specs.StandsFor.{WholeView, StandsFor, IsReplyOf}
use Rattle.moka_table.specs.Table.{removal_of}
use Rattle.moka_state.specs.declared.handed_out.HandedOut.{HandedOut}
use Rattle.moka_state.specs.declared.step.Step.{Step}
use Rattle.moka_state.specs.declared.step.Reply.{Reply}
use Rattle.moka_state.specs.declared.step.Reply.TheVariants.{Found, Contains, Done, Counted, Left, Noticed, Refused, PredicateRefused}
use Rattle.moka_state.specs.declared.step.Reply.TheVariants.{Entered, Run, Wait, Nothing, Failed, Computed, NotYet, Abandoned, Ended}
use Rattle.moka_state.specs.HandedOut.{HandsOut}
use Rattle.moka_state.specs.Recorded.{IsNoticeFor, IsNoticed, IsSaid, SameReply, OneReply, IsStepCopy, AreRecords, WantsMemory, IsRecordUnder}
use Rattle.moka_state.specs.Replies.{IsRefusal}
use Rattle.moka_state.specs.Step.{call_of, IsReplyTo, IsRun, after_reply, after_all}
use Rattle.moka_state.proofs.Runs.{IsRun-more, stands-more}

pub IfOk-by : {A B : Type 0} {P Q : A → Type 0} (r : Result A B) → ((x : A) → P x → Q x) → IfOk r P → IfOk r Q
IfOk-by (Ok x) more is = more x is
IfOk-by (Err e) more is = tt

pub IfOk-both : {A B : Type 0} {P Q S : A → Type 0} (r : Result A B) → ((x : A) → P x → Q x → S x) → IfOk r P → IfOk r Q → IfOk r S
IfOk-both (Ok x) both p q = both x p q
IfOk-both (Err e) both p q = tt

pub IfOk-so : {A B : Type 0} {C : Type 0} {P Q S : A → Type 0} (r : Result A B) → IfOk r P → (C → IfOk r Q) → ((x : A) → P x → (C → Q x) → S x) → IfOk r S
IfOk-so (Ok x) p q so = so x p q
IfOk-so (Err e) p q so = tt

pub IfOk-three : {A B : Type 0} {P Q R S : A → Type 0} (r : Result A B) → ((x : A) → P x → Q x → R x → S x) → IfOk r P → IfOk r Q → IfOk r R → IfOk r S
IfOk-three (Ok x) all p q s = all x p q s
IfOk-three (Err e) all p q s = tt

pub IfOk-four : {A B : Type 0} {P Q R S U : A → Type 0} (r : Result A B) → ((x : A) → P x → Q x → R x → S x → U x) → IfOk r P → IfOk r Q → IfOk r R → IfOk r S → IfOk r U
IfOk-four (Ok x) all p q s u = all x p q s u
IfOk-four (Err e) all p q s u = tt

module _ {K V : Type 0} (is_clone : V → V → Type 0) where
  -- a notice is that of its own removal
  own-notice : (n : Option (Notice K V)) → IsNoticeFor is_clone (option_map removal_of n) n
  own-notice None = tt
  own-notice (Some n) = (refl, inl refl, refl)

  noticed : {E : Type 0} (answer : calls.Reply K V E) (n : Option (Notice K V)) → IsCopiedReply is_clone answer (calls.Noticed (option_map removal_of n)) → IsNoticed is_clone answer n
  noticed {E} answer n is = subst (λ (a : calls.Reply K V E). IsNoticed is_clone a n) (same answer is) (own-notice n)
    where
      same : (a : calls.Reply K V E) → IsCopiedReply is_clone a (calls.Noticed (option_map removal_of n)) → ◌≡◌ {A = calls.Reply K V E} (calls.Noticed (option_map removal_of n)) a
      same (calls.Found v) is = is
      same (calls.Entered e) is = is
      same a is = is

module _ {K V E : Type 0} (is_clone : V → V → Type 0) where
  by : (it : Option (Accepted K V E)) (answer : calls.Reply K V E) → IsReplyOf is_clone it answer → (a : calls.Reply K V E) × (reply_of it ≡ Some a) × IsCopiedReply is_clone a answer
  by None answer is = absurd is
  by (Some it) answer is = (it.reply, refl, is)

  by-notice : (it : Option (Accepted K V E)) (n : Option (Notice K V)) → IsReplyOf is_clone it (calls.Noticed (option_map removal_of n)) → (a : calls.Reply K V E) × (reply_of it ≡ Some a) × IsNoticed is_clone a n
  by-notice None n is = absurd is
  by-notice (Some it) n is = (it.reply, refl, noticed is_clone it.reply n is)

module _ {K V C H W X P F L T E S : Type 0} (eq : K → K → Bool) (is_clone : V → V → Type 0) (is_infallible : V → Type 0) (settings : Settings K V) (steps : List (AcceptedStep K V E)) (call : Call K V E) where
  abbrev pub Said : Reply K V C H W X P F L T E S → Type 0
  Said reply = IsRefusal reply ⊎ ((answer : calls.Reply K V E) × (reply_of (accepted eq settings steps call) ≡ Some answer) × IsSaid is_clone answer reply)

  -- a reply is a failure, or is the reply of the specification
  pub said : (reply : Reply K V C H W X P F L T E S) → IsReplyTo eq is_clone is_infallible settings steps call reply → Said reply
  said (Refused cause) is = inl tt
  said (PredicateRefused cause) is = inl tt
  said (Noticed n) is = inr (by-notice is_clone (accepted eq settings steps call) n is.0)
  said (Found v) is = inr (by is_clone (accepted eq settings steps call) _ is.0)
  said (Contains b) is = inr (by is_clone (accepted eq settings steps call) _ is.0)
  said Done is = inr (by is_clone (accepted eq settings steps call) _ is.0)
  said (Counted n) is = inr (by is_clone (accepted eq settings steps call) _ is.0)
  said (Left b) is = inr (by is_clone (accepted eq settings steps call) _ is.0)
  said (Entered e) is = inr (by is_clone (accepted eq settings steps call) _ is.0)
  said (Run name e) is = inr (by is_clone (accepted eq settings steps call) _ is.0)
  said (Wait name) is = inr (by is_clone (accepted eq settings steps call) _ is.0)
  said Nothing is = inr (by is_clone (accepted eq settings steps call) _ is.0)
  said (Failed e) is = inr (by is_clone (accepted eq settings steps call) _ is.0)
  said (Computed r) is = inr (by is_clone (accepted eq settings steps call) _ is.0)
  said NotYet is = inr (by is_clone (accepted eq settings steps call) _ is.0)
  said Abandoned is = inr (by is_clone (accepted eq settings steps call) _ is.0)
  said Ended is = inr (by is_clone (accepted eq settings steps call) _ is.0)

  abbrev pub SaysAgain : Reply K V C H W X P F L T E S → HandedOut K V E → Reply K V C H W X P F L T E S → Type 0
  SaysAgain reply out again = (answer : calls.Reply K V E) → IsSaid is_clone answer reply → HandsOut is_clone answer out → IsSaid is_clone answer again

  -- so a reply, and two others made of it with clones for its step, are the same
  pub same-replies : (reply one other : Reply K V C H W X P F L T E S) (out more : HandedOut K V E) → IsReplyTo eq is_clone is_infallible settings steps call reply
      → IfSome (reply_of (accepted eq settings steps call)) (λ answer. HandsOut is_clone answer out) → IfSome (reply_of (accepted eq settings steps call)) (λ answer. HandsOut is_clone answer more)
      → SaysAgain reply out one → SaysAgain reply more other → (IsRefusal reply → one ≡ reply) → (IsRefusal reply → other ≡ reply)
      → OneReply is_clone reply one other
  same-replies reply one other out more is hands hands_more again again_other refused refused_other = go (said reply is)
    where
      go : Said reply → OneReply is_clone reply one other
      go (inl refusal) = inr (refusal, refused refusal, refused_other refusal)
      go (inr (answer, there, says)) =
          let x = again answer says (subst (λ o. IfSome o (λ answer. HandsOut is_clone answer out)) there hands) in
          let y = again_other answer says (subst (λ o. IfSome o (λ answer. HandsOut is_clone answer more)) there hands_more) in
          inl (answer, says, x, y)

module _ {K V C H W X P F L T E S : Type 0} (is_clone : V → V → Type 0) where
  -- two of three replies that are one
  pub first-two : (a b c : Reply K V C H W X P F L T E S) → OneReply is_clone a b c → SameReply is_clone a b
  first-two a b c (inl one) = inl (one.0, one.1, one.2)
  first-two a b c (inr failed) = inr (failed.0, failed.1)

map-more : {A B : Type 0} (f : A → B) (xs : List A) (x : A) → map f (xs ++ x ∷ []) ≡ map f xs ++ f x ∷ []
map-more f [] x = refl
map-more f (y ∷ xs) x = ap (λ l. f y ∷ l) (map-more f xs x)

all-more : {A : Type 0} (Q : A → Type 0) (xs : List A) (x : A) → AllByRecursion Q xs → Q x → AllByRecursion Q (xs ++ x ∷ [])
all-more Q [] x all is = (is, tt)
all-more Q (y ∷ xs) x all is = (all.0, all-more Q xs x all.1 is)

abbrev Line : (K V C H W X P F L T E S : Type 0) → Type 0
Line K V C H W X P F L T E S = Step K V C H W X P F L T E S × Reply K V C H W X P F L T E S

module _ {K V C H W X P F L T E S : Type 0} (is_clone : V → V → Type 0) where
  records-more : (xs ys : List (Line K V C H W X P F L T E S)) (a b : Line K V C H W X P F L T E S) → AreRecords is_clone xs ys → IsStepCopy is_clone a.0 b.0 → SameReply is_clone a.1 b.1 → AreRecords is_clone (xs ++ a ∷ []) (ys ++ b ∷ [])
  records-more [] [] a b h s r = (s, r, tt)
  records-more (x ∷ xs) (y ∷ ys) a b h s r = (h.0, h.1, records-more xs ys a b h.2 s r)
  records-more [] (y ∷ ys) a b h s r = absurd h
  records-more (x ∷ xs) [] a b h s r = absurd h

  module _ {D : Type 0} (eq : K → K → Bool) (is_infallible : V → Type 0) (test : P → K → V → Bool) (view : D → WholeView K V E) where
    -- a new state has the empty history
    pub nothing-recorded : (settings : Settings K V) (state : D) → StandsFor eq is_clone settings (view state) [] → (none : List (Line K V C H W X P F L T E S)) → none ≡ [] → IsRecordUnder {T = T} {S = S} eq is_clone is_infallible test view settings state none
    nothing-recorded settings state stands none e = rw e ([], tt, tt, tt, stands)

    -- After a step that did not fail with `OutOfMemory`, a history with one entry more is one of the new state.
    pub grown : (old new : D) (a b : Line K V C H W X P F L T E S) (settings : Settings K V) (history : List (Line K V C H W X P F L T E S)) → IsRecordUnder eq is_clone is_infallible test view settings old history
        → ((settings : Settings K V) (steps : List (AcceptedStep K V E)) → StandsFor eq is_clone settings (view old) steps → IsReplyTo eq is_clone is_infallible settings steps (call_of test a.0) a.1)
        → ((settings : Settings K V) (steps : List (AcceptedStep K V E)) → StandsFor eq is_clone settings (view old) steps → StandsFor eq is_clone settings (view new) (after_reply eq settings (call_of test a.0) a.1 steps))
        → ¬ (WantsMemory a.1) → IsStepCopy is_clone a.0 b.0
        → ((settings : Settings K V) (steps : List (AcceptedStep K V E)) → StandsFor eq is_clone settings (view old) steps → SameReply is_clone a.1 b.1)
        → IsRecordUnder eq is_clone is_infallible test view settings new (history ++ b ∷ [])
    grown old new a b settings history (done, run, fine, records, stands) reply follows wants same_step same_reply =
        let before = after_all eq test settings (map (λ d. d.0) done) (map (λ d. d.1) done) [] in
        let calls_more = map-more (λ (d : Line K V C H W X P F L T E S). d.0) done a in
        let replies_more = map-more (λ (d : Line K V C H W X P F L T E S). d.1) done a in (
          done ++ a ∷ [],
          rw (calls_more, replies_more) (IsRun-more eq test is_clone is_infallible settings [] (map (λ d. d.0) done) (map (λ d. d.1) done) a.0 a.1 run (reply settings before stands)),
          all-more (λ (d : Line K V C H W X P F L T E S). ¬ (WantsMemory d.1)) done a fine wants,
          records-more done history a b records same_step (same_reply settings before stands),
          rw (calls_more, replies_more) (stands-more eq test is_clone is_infallible settings (view new) [] (map (λ d. d.0) done) (map (λ d. d.1) done) a.0 a.1 run (follows settings before stands)),
        )

-- a failure with `OutOfMemory` is a failure
pub wants-refusal : {K V C H W X P F L T E S : Type 0} (r : Reply K V C H W X P F L T E S) → WantsMemory r → IsRefusal r
wants-refusal (Refused c) wants = tt
wants-refusal (PredicateRefused c) wants = tt
wants-refusal r wants = absurd wants
