-- What a step over several segments replies, and what a run of steps does.
use Rattle.std.specs.Prelude.{⊤, ◌≡◌, Bool, Option, Some, None, List, [], ◌∷◌}
use Rattle.moka_model.specs.Calls.{Call}
use Rattle.moka_state.specs.declared.step.Step.{Step}
use Rattle.moka_state.specs.declared.step.Reply.{Reply}
use Rattle.moka_state.specs.declared.step.Reply.TheVariants.{Counted, Left, Refused, PredicateRefused}
use Rattle.moka_state.specs.Step.{call_of, IsReplyTo}
use Rattle.moka_segment_model.specs.Segments.{SegmentedSettings, share_settings, steps_in, segment_of_place, place_of}
use Rattle.moka_segment_model.specs.Segments.{Joint, Total, AnyLeft, joint_in}

-- If all segments return something together, the reply is that. For any other call, `Otherwise` says what the reply is.
abbrev pub IsReplyBy : {K V C H W X P F L T E S : Type 0} → Option Joint → Type 0 → Reply K V C H W X P F L T E S → Type 0
IsReplyBy (Some (Total total)) Otherwise reply = reply ≡ Counted total
IsReplyBy (Some (AnyLeft left)) Otherwise reply = reply ≡ Left left
IsReplyBy None Otherwise reply = Otherwise

-- What a call replies after others: what all segments return together, if they do. Otherwise it is the reply of the
-- call's segment, as a state with its share and its own list.
abbrev pub IsReplyIn : {K V C H W X P F L T S : Type 0} (E : Type 0) → (K → K → Bool) → (V → V → Type 0) → (V → Type 0) →
    SegmentedSettings K V → List (Call K V E) → Call K V E → Reply K V C H W X P F L T E S → Type 0
IsReplyIn E eq is_clone is_infallible settings calls call reply =
    IsReplyBy (joint_in E eq settings calls call)
    (IsReplyTo eq is_clone is_infallible (share_settings settings)
    (steps_in E eq settings calls (segment_of_place (place_of E eq settings calls call))) call reply)
    reply

-- The calls after a reply to one more. A failed call leaves them as they are.
abbrev pub after_reply_in : {K V C H W X P F L T E S : Type 0} → Call K V E → Reply K V C H W X P F L T E S → List (Call K V E) →
    List (Call K V E)
after_reply_in call (Refused cause) calls = calls
after_reply_in call (PredicateRefused cause) calls = calls
after_reply_in call reply calls = call ∷ calls

module _ {K V C H W X P F L T E S : Type 0} (test : P → K → V → Bool) where
  -- The calls after a run, given those before it.
  abbrev pub after_all_in : List (Step K V C H W X P F L T E S) → List (Reply K V C H W X P F L T E S) → List (Call K V E) →
      List (Call K V E)
  after_all_in [] replies calls = calls
  after_all_in (step ∷ rest) [] calls = calls
  after_all_in (step ∷ rest) (reply ∷ replies) calls = after_all_in rest replies (after_reply_in (call_of test step) reply calls)

  -- Each reply is the one of its step after the calls before it, and there are as many replies as steps.
  abbrev pub IsRunIn : (K → K → Bool) → (V → V → Type 0) → (V → Type 0) → SegmentedSettings K V → List (Call K V E) →
      List (Step K V C H W X P F L T E S) → List (Reply K V C H W X P F L T E S) → Type 0
  IsRunIn eq is_clone is_infallible settings calls [] [] = ⊤
  IsRunIn eq is_clone is_infallible settings calls (step ∷ rest) (reply ∷ replies) =
      IsReplyIn E eq is_clone is_infallible settings calls (call_of test step) reply
      × IsRunIn eq is_clone is_infallible settings (after_reply_in (call_of test step) reply calls) rest replies
  IsRunIn eq is_clone is_infallible settings calls [] (reply ∷ replies) = ⊥
  IsRunIn eq is_clone is_infallible settings calls (step ∷ rest) [] = ⊥
