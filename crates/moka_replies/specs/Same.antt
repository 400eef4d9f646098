-- When two replies are the same.
use Rattle.std.specs.Prelude.{◌==◌, ◌&&◌, Bool, true, false}
use Rattle.std.specs.Option.{option_eq}
use Rattle.std.specs.Bool.{beq}
use Rattle.std.specs.Arc.{arc_value}
use Rattle.moka_model.specs.declared.comp_result.CompResult.{CompResult}
use Rattle.moka_model.specs.declared.comp_result.CompResult.TheVariants.{StillNone, Unchanged, Inserted, ReplacedWith, Removed}
use Rattle.moka_model.specs.declared.entry.Entry.{Entry}
use Rattle.moka_model.specs.declared.notification.Notice.{Notice}
use Rattle.moka_model.specs.declared.notification.RemovalCause.{RemovalCause}
use Rattle.moka_model.specs.declared.notification.RemovalCause.TheVariants.{Expired, Explicit, Replaced, Size}
use Rattle.moka_model.specs.Entries.{entry_of}
use Rattle.moka_model.specs.Turns.{same_name}
use Rattle.moka_policy.specs.declared.policy.Refused.{Refused}
use Rattle.moka_policy.specs.declared.policy.Refused.TheVariants as causes
use Rattle.moka_predicate_ids.specs.declared.predicate_error.PredicateError.{PredicateError}
use Rattle.moka_predicate_ids.specs.declared.predicate_error.PredicateError.TheVariants as predicates
use Rattle.moka_turns.specs.declared.turn_name.TurnName.{TurnName}
use Rattle.moka_turns.specs.Handles.{name_by}
use Rattle.moka_state.specs.declared.step.Reply.{Reply}
use Rattle.moka_state.specs.declared.step.Reply.TheVariants.{Found, Contains, Done, Counted, Left, Noticed, Entered, Run, Wait}
use Rattle.moka_state.specs.declared.step.Reply.TheVariants.{Nothing, Failed, Computed, NotYet, Abandoned, Ended}
use Rattle.moka_state.specs.declared.step.Reply.TheVariants as replies

-- Whether two causes of a removal are the same.
abbrev pub same_cause : RemovalCause → RemovalCause → Bool
same_cause Expired Expired = true
same_cause Explicit Explicit = true
same_cause Replaced Replaced = true
same_cause Size Size = true
same_cause a b = false

-- Whether two causes of a failed call are the same.
abbrev pub same_refusal : Refused → Refused → Bool
same_refusal causes.OutOfMemory causes.OutOfMemory = true
same_refusal causes.NumbersUsedUp causes.NumbersUsedUp = true
same_refusal causes.UnknownTurn causes.UnknownTurn = true
same_refusal causes.UnknownTicket causes.UnknownTicket = true
same_refusal causes.TurnIsOpen causes.TurnIsOpen = true
same_refusal causes.WaitsAbandoned causes.WaitsAbandoned = true
same_refusal a b = false

-- Whether two causes of a failed invalidation by a predicate are the same.
abbrev pub same_predicate_error : PredicateError → PredicateError → Bool
same_predicate_error predicates.InvalidationClosuresDisabled predicates.InvalidationClosuresDisabled = true
same_predicate_error predicates.OutOfMemory predicates.OutOfMemory = true
same_predicate_error a b = false

-- Whether two names of turns have the same number, the same kind, and equal keys.
abbrev pub same_turn_name : {K : Type 0} → (K → K → Bool) → TurnName K → TurnName K → Bool
same_turn_name key_eq a b = same_name key_eq (name_by a) (name_by b)

module _ {K V : Type 0} (key_eq : K → K → Bool) (value_eq : V → V → Bool) where
  -- Whether two entries have equal keys, equal values, and the same two flags.
  abbrev pub same_entry : Entry K V → Entry K V → Bool
  same_entry a b = key_eq (entry_of a).key (entry_of b).key && (value_eq (entry_of a).value (entry_of b).value
      && (beq (entry_of a).fresh (entry_of b).fresh && beq (entry_of a).replaced (entry_of b).replaced))

  -- Whether two notices have equal keys, equal values, and the same cause.
  abbrev pub same_notice : Notice K V → Notice K V → Bool
  same_notice a b = key_eq (arc_value a.key) (arc_value b.key) && (value_eq a.value b.value && same_cause a.cause b.cause)

  -- Whether two results of computes are of one variant, with the same entry, or with equal keys.
  abbrev pub same_result : CompResult K V → CompResult K V → Bool
  same_result (StillNone a) (StillNone b) = key_eq (arc_value a) (arc_value b)
  same_result (Unchanged a) (Unchanged b) = same_entry a b
  same_result (Inserted a) (Inserted b) = same_entry a b
  same_result (ReplacedWith a) (ReplacedWith b) = same_entry a b
  same_result (Removed a) (Removed b) = same_entry a b
  same_result a b = false

module _ {K V C H W X P F L T E S : Type 0} (key_eq : K → K → Bool) (value_eq : V → V → Bool) (error_eq : E → E → Bool) where
  -- Whether two replies are of one variant, and what it has is the same: keys, values and errors are equal, and all
  -- else is the same.
  abbrev pub same_reply : Reply K V C H W X P F L T E S → Reply K V C H W X P F L T E S → Bool
  same_reply (Found a) (Found b) = option_eq value_eq a b
  same_reply (Contains a) (Contains b) = beq a b
  same_reply Done Done = true
  same_reply (Counted a) (Counted b) = a == b
  same_reply (Left a) (Left b) = beq a b
  same_reply (Noticed a) (Noticed b) = option_eq (same_notice key_eq value_eq) a b
  same_reply (Entered a) (Entered b) = same_entry key_eq value_eq a b
  same_reply (Run name a) (Run other b) = same_turn_name key_eq name other && option_eq (same_entry key_eq value_eq) a b
  same_reply (Wait a) (Wait b) = same_turn_name key_eq a b
  same_reply Nothing Nothing = true
  same_reply (Failed a) (Failed b) = error_eq (arc_value a) (arc_value b)
  same_reply (Computed a) (Computed b) = same_result key_eq value_eq a b
  same_reply NotYet NotYet = true
  same_reply Abandoned Abandoned = true
  same_reply Ended Ended = true
  same_reply (replies.Refused a) (replies.Refused b) = same_refusal a b
  same_reply (replies.PredicateRefused a) (replies.PredicateRefused b) = same_predicate_error a b
  same_reply a b = false
