-- What a session prints, from what its cache's steps ensure.
use Rattle.std.proofs.Common.{◌≡◌, ◌+◌, ℕ, zero, suc, List, [], ◌∷◌, ◌++◌, map, replicate, nat_eq, refl, sym, ap, ◌∙◌, subst, add-one}
use Rattle.std.proofs.lemmas.List.{map-append, append-nil}
use Rattle.moka_model.specs.Calls as calls
use Rattle.moka_model.specs.Calls.{Call}
use Rattle.moka_policy.specs.Frequency.{none_noted, noted, estimated}
use Rattle.moka_state.specs.StateData.{estimates}
use Rattle.moka_segment_model.specs.Segments.{notices_in, AllStandFor}
use Rattle.moka_segmented.specs.SegmentedData.{notices_queued}
use Rattle.moka_segmented.proofs.Callers.{notices-by}
use Rattle.moka_state.specs.Step.{call_of}
use Rattle.moka_segmented.specs.Step.{IsReplyIn, after_reply_in}
use Rattle.mokabox_syntax.specs.OutputLine.{output_text}
use Rattle.mokabox_syntax.specs.declared.output_line.OutputLine.{OutputLine}
use Rattle.mokabox_syntax.specs.Command.{PlainCommand}
use Rattle.mokabox_syntax.specs.declared.command.Command.TheVariants as commands
use Rattle.mokabox_interpreter.specs.Script.{Text, ScriptStep, ScriptReply, is_copy, is_surely_copied, CacheSettings, Makes, output_of, CallsPrint, policy_line}
use Rattle.mokabox_interpreter.specs.Session.{CacheData, cache_behaviour, view, holds_of, IsStepOf, Prints}

-- The cache goes from one state to another by a call with this reply.
pub record Goes (old new : CacheData) (call : Call ℕ Text Text) (reply : ScriptReply) : Type 0 where
  pub reply_is : (settings : CacheSettings) (steps : List (Call ℕ Text Text)) → AllStandFor nat_eq is_copy settings (view old) steps → IsReplyIn Text nat_eq is_copy is_surely_copied settings steps call reply
  pub stands : (settings : CacheSettings) (steps : List (Call ℕ Text Text)) → AllStandFor nat_eq is_copy settings (view old) steps → AllStandFor nat_eq is_copy settings (view new) (after_reply_in call reply steps)

-- the moment of what follows
pub moved : (cache : CacheData) (moment later : ℕ) → Prints cache moment (commands.At later) [] cache later
moved cache moment later settings before is =
    (record before { moment = later }, ([], [], [], refl, (refl, refl), refl, refl, refl), record { stands = is.stands; parted = is.parted; now = refl })

-- the policy, by the settings that the cache was built with
pub policy_printed : (cache : CacheData) (moment : ℕ) (lines : List (List ℕ)) → lines ≡ policy_line (view cache).settings ∷ [] → Prints cache moment commands.Policy lines cache moment
policy_printed cache moment lines are settings before is =
    (before, ([], [], lines, refl, (refl, refl), are ∙ ap (λ s. policy_line s ∷ []) is.stands.settings, sym (append-nil lines), sym is.now ∙ is.now), is)

-- The line of a command that is one step is that of the reply to it.
pub one_call : (old new : CacheData) (moment : ℕ) (command : PlainCommand) (step : ScriptStep) (reply : ScriptReply) (output : OutputLine) (items : List OutputLine) → IsStepOf moment command step → Goes old new (call_of holds_of step) reply → output_text output ≡ output_text (output_of reply) → items ≡ output ∷ [] → Prints old moment command (map output_text items) new moment
one_call old new moment command step reply output items is_one goes is_output are settings before is =
    let call = call_of holds_of step in
    let made : (notices : ℕ) → Makes notices before.moment command (call ∷ []) = subst (λ at. (notices : ℕ) → Makes notices at command (call ∷ [])) is.now is_one.makes in
    let line : map output_text items ≡ output_text (output_of reply) ∷ [] = ap (map output_text) are ∙ ap (λ a. a ∷ []) is_output in (
      record { done = after_reply_in call reply before.done; moment = before.moment },
      (call ∷ [], map output_text items, [], made _, (reply, [], goes.reply_is settings before.done is.stands, line, (refl, refl)), is_one.prints_no_own settings before, refl, sym (is_one.stays before.moment)),
      record { stands = goes.stands settings before.done is.stands; parted = is.parted; now = is.now },
    )

-- So many notices were taken, or it was seen that none is left, and these lines were printed.
pub record HasTaken (cache : CacheData) (settings : CacheSettings) (steps : List (Call ℕ Text Text)) (count : ℕ) (printed : List (List ℕ)) : Type 0 where
  pub after : List (Call ℕ Text Text)
  pub prints : CallsPrint settings steps (replicate count calls.TakeNotice) printed after
  pub stands : AllStandFor nat_eq is_copy settings (view cache) after

pub none_taken : (cache : CacheData) (settings : CacheSettings) (steps : List (Call ℕ Text Text)) → AllStandFor nat_eq is_copy settings (view cache) steps → HasTaken cache settings steps 0 []
none_taken cache settings steps stands = record { after = steps; prints = (refl, refl); stands = stands }

prints-more : (settings : CacheSettings) (count : ℕ) (steps after : List (Call ℕ Text Text)) (printed : List (List ℕ)) (reply : ScriptReply) → CallsPrint settings steps (replicate count calls.TakeNotice) printed after → IsReplyIn Text nat_eq is_copy is_surely_copied settings after calls.TakeNotice reply
    → CallsPrint settings steps (replicate (suc count) calls.TakeNotice) (printed ++ output_text (output_of reply) ∷ []) (after_reply_in calls.TakeNotice reply after)
prints-more settings zero steps after printed reply prints is =
    let here : IsReplyIn Text nat_eq is_copy is_surely_copied settings steps calls.TakeNotice reply = subst (λ s. IsReplyIn Text nat_eq is_copy is_surely_copied settings s calls.TakeNotice reply) prints.1 is in
    (reply, [], here, ap (λ lines. lines ++ output_text (output_of reply) ∷ []) prints.0, (refl, ap (after_reply_in calls.TakeNotice reply) prints.1))
prints-more settings (suc count) steps after printed reply prints is =
    let first = prints.0 in
    let rest = prints.1 in (
      first,
      rest ++ output_text (output_of reply) ∷ [],
      prints.2,
      ap (λ lines. lines ++ output_text (output_of reply) ∷ []) prints.3,
      prints-more settings count (after_reply_in calls.TakeNotice first steps) after rest reply prints.4 is,
    )

-- one notice more
pub one_taken : (old new : CacheData) (settings : CacheSettings) (steps : List (Call ℕ Text Text)) (count : ℕ) (printed : List (List ℕ)) (reply : ScriptReply) → HasTaken old settings steps count printed → Goes old new calls.TakeNotice reply → HasTaken new settings steps (count + 1) (printed ++ output_text (output_of reply) ∷ [])
one_taken old new settings steps count printed reply taken goes = rw add-one (record {
  after = after_reply_in calls.TakeNotice reply taken.after;
  prints = prints-more settings count steps taken.after printed reply taken.prints (goes.reply_is settings taken.after taken.stands);
  stands = goes.stands settings taken.after taken.stands;
})

-- all were taken, and then it was seen that none is left
pub all_taken : (old new : CacheData) (moment : ℕ) (printed : List (List ℕ))
    → ((settings : CacheSettings) (steps : List (Call ℕ Text Text)) → AllStandFor nat_eq is_copy settings (view old) steps → (count : ℕ) × (count ≡ notices_queued old.segments + 1) × HasTaken new settings steps count printed)
    → Prints old moment commands.Notices printed new moment
all_taken old new moment printed has settings before is =
    let taken = has settings before.done is.stands in
    let all : taken.0 ≡ notices_in Text nat_eq settings before.done + 1 = taken.1 ∙ ap (λ n. n + 1) (sym (notices-by Text nat_eq cache_behaviour (estimates (noted 6) (estimated 6)) (none_noted 6) old settings before.done is.stands)) in (
      record { done = taken.2.after; moment = before.moment },
      (replicate taken.0 calls.TakeNotice, printed, [], ap (λ n. replicate n calls.TakeNotice) all, taken.2.prints, refl, refl, refl),
      record { stands = taken.2.stands; parted = is.parted; now = is.now },
    )

-- a reply more, whose line is put behind the others
pub printed_more : (old new : CacheData) (settings : CacheSettings) (steps : List (Call ℕ Text Text)) (count : ℕ) (items more : List OutputLine) (one : OutputLine) (reply : ScriptReply) → HasTaken old settings steps count (map output_text items) → Goes old new calls.TakeNotice reply → output_text one ≡ output_text (output_of reply) → more ≡ items ++ one ∷ [] → HasTaken new settings steps (count + 1) (map output_text more)
printed_more old new settings steps count items more one reply taken goes is_output is_more =
    let lines : map output_text more ≡ map output_text items ++ output_text (output_of reply) ∷ [] = ap (map output_text) is_more ∙ map-append output_text items (one ∷ []) ∙ ap (λ a. map output_text items ++ a ∷ []) is_output in
    subst (HasTaken new settings steps (count + 1)) (sym lines) (one_taken old new settings steps count (map output_text items) reply taken goes)
