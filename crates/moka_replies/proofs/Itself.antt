-- A reply is the same as itself.
use Rattle.std.proofs.Common.{◌≡◌, ℕ, ◌==◌, Bool, true, false, Option, Some, None, refl}
use Rattle.std.proofs.lemmas.Bool.{and_from, eq-eqb}
use Rattle.std.specs.Bool.{beq}
use Rattle.std.specs.Option.{option_eq}
use Rattle.std.specs.Arc.{arc_value}
use Rattle.moka_model.specs.declared.comp_result.CompResult.{CompResult}
use Rattle.moka_model.specs.declared.comp_result.CompResult.TheVariants.{StillNone, Unchanged, Inserted, ReplacedWith, Removed}
use Rattle.moka_model.specs.declared.entry.Entry.{Entry}
use Rattle.moka_model.specs.declared.notification.Notice.{Notice}
use Rattle.moka_model.specs.declared.notification.RemovalCause.{RemovalCause}
use Rattle.moka_model.specs.declared.notification.RemovalCause.TheVariants.{Expired, Explicit, Replaced, Size}
use Rattle.moka_model.specs.declared.turns.Kind.{Kind}
use Rattle.moka_model.specs.declared.turns.Kind.TheVariants.{With, Optionally, Try, Compute}
use Rattle.moka_model.specs.Entries.{entry_of}
use Rattle.moka_model.specs.Turns.{same_kind}
use Rattle.moka_policy.specs.declared.policy.Refused.{Refused}
use Rattle.moka_policy.specs.declared.policy.Refused.TheVariants as causes
use Rattle.moka_predicate_ids.specs.declared.predicate_error.PredicateError.{PredicateError}
use Rattle.moka_predicate_ids.specs.declared.predicate_error.PredicateError.TheVariants as predicates
use Rattle.moka_turns.specs.declared.turn_name.TurnName.{TurnName}
use Rattle.moka_state.specs.declared.step.Reply.{Reply}
use Rattle.moka_state.specs.declared.step.Reply.TheVariants.{Found, Contains, Done, Counted, Left, Noticed, Entered, Run, Wait}
use Rattle.moka_state.specs.declared.step.Reply.TheVariants.{Nothing, Failed, Computed, NotYet, Abandoned, Ended}
use Rattle.moka_state.specs.declared.step.Reply.TheVariants as replies
use Rattle.moka_replies.specs.Same.{same_cause, same_entry, same_notice, same_predicate_error, same_refusal, same_reply, same_result, same_turn_name}

flag-itself : (b : Bool) → beq b b ≡ true
flag-itself true = refl
flag-itself false = refl

number-itself : (n : ℕ) → (n == n) ≡ true
number-itself n = eq-eqb n n refl

kind-itself : (kind : Kind) → same_kind kind kind ≡ true
kind-itself With = refl
kind-itself Optionally = refl
kind-itself Try = refl
kind-itself Compute = refl

cause-itself : (cause : RemovalCause) → same_cause cause cause ≡ true
cause-itself Expired = refl
cause-itself Explicit = refl
cause-itself Replaced = refl
cause-itself Size = refl

refusal-itself : (cause : Refused) → same_refusal cause cause ≡ true
refusal-itself causes.OutOfMemory = refl
refusal-itself causes.NumbersUsedUp = refl
refusal-itself causes.UnknownTurn = refl
refusal-itself causes.UnknownTicket = refl
refusal-itself causes.TurnIsOpen = refl
refusal-itself causes.WaitsAbandoned = refl

predicate_error-itself : (cause : PredicateError) → same_predicate_error cause cause ≡ true
predicate_error-itself predicates.InvalidationClosuresDisabled = refl
predicate_error-itself predicates.OutOfMemory = refl

option-itself : {A : Type 0} (eq : A → A → Bool) → ((x : A) → eq x x ≡ true) → (o : Option A) → option_eq eq o o ≡ true
option-itself eq itself None = refl
option-itself eq itself (Some x) = itself x

name-itself : {K : Type 0} (eq : K → K → Bool) → ((k : K) → eq k k ≡ true) → (name : TurnName K) → same_turn_name eq name name ≡ true
name-itself eq itself name =
    and_from (name.number == name.number) _ (number-itself name.number)
    (and_from (same_kind name.kind name.kind) _ (kind-itself name.kind) (itself (arc_value name.key)))

module _ {K V : Type 0} (key_eq : K → K → Bool) (value_eq : V → V → Bool) (key-itself : (k : K) → key_eq k k ≡ true)
    (value-itself : (v : V) → value_eq v v ≡ true) where
  entry-itself : (e : Entry K V) → same_entry key_eq value_eq e e ≡ true
  entry-itself e =
      and_from (key_eq (entry_of e).key (entry_of e).key) _ (key-itself (entry_of e).key)
      (and_from (value_eq (entry_of e).value (entry_of e).value) _ (value-itself (entry_of e).value)
      (and_from (beq (entry_of e).fresh (entry_of e).fresh) _ (flag-itself (entry_of e).fresh) (flag-itself (entry_of e).replaced)))

  notice-itself : (n : Notice K V) → same_notice key_eq value_eq n n ≡ true
  notice-itself n =
      and_from (key_eq (arc_value n.key) (arc_value n.key)) _ (key-itself (arc_value n.key))
      (and_from (value_eq n.value n.value) _ (value-itself n.value) (cause-itself n.cause))

  result-itself : (result : CompResult K V) → same_result key_eq value_eq result result ≡ true
  result-itself (StillNone key) = key-itself (arc_value key)
  result-itself (Unchanged e) = entry-itself e
  result-itself (Inserted e) = entry-itself e
  result-itself (ReplacedWith e) = entry-itself e
  result-itself (Removed e) = entry-itself e

  module _ {C H W X P F L T E S : Type 0} (error_eq : E → E → Bool) (error-itself : (e : E) → error_eq e e ≡ true) where
    pub reply-itself : (reply : Reply K V C H W X P F L T E S) → same_reply key_eq value_eq error_eq reply reply ≡ true
    reply-itself (Found found) = option-itself value_eq value-itself found
    reply-itself (Contains b) = flag-itself b
    reply-itself Done = refl
    reply-itself (Counted n) = number-itself n
    reply-itself (Left b) = flag-itself b
    reply-itself (Noticed notice) = option-itself (same_notice key_eq value_eq) notice-itself notice
    reply-itself (Entered e) = entry-itself e
    reply-itself (Run name shown) =
        and_from (same_turn_name key_eq name name) _ (name-itself key_eq key-itself name) (option-itself (same_entry key_eq value_eq) entry-itself shown)
    reply-itself (Wait name) = name-itself key_eq key-itself name
    reply-itself Nothing = refl
    reply-itself (Failed error) = error-itself (arc_value error)
    reply-itself (Computed result) = result-itself result
    reply-itself NotYet = refl
    reply-itself Abandoned = refl
    reply-itself Ended = refl
    reply-itself (replies.Refused cause) = refusal-itself cause
    reply-itself (replies.PredicateRefused cause) = predicate_error-itself cause
