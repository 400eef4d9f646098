use Rattle.std.proofs.Common.{◌+◌, refl, arith, Some, None, true, nat_eq}
use Rattle.moka_state.specs.declared.step.Reply.TheVariants.{Noticed}
use Rattle.moka_segmented.proofs.Callers.{taken-replies}
use Rattle.mokabox_interpreter.specs.Script.{Text, is_copy, is_surely_copied}
use Rattle.mokabox_interpreter.proofs.SessionLaws.{printed_more, all_taken}
use Rattle.mokabox_interpreter.proofs.session.Session.notices.Goals as goal

pub loop-notice-preserved : goal.loop-notice-preserved
loop-notice-preserved c = (
  (λ settings steps stands.
      let was = c.loop-notice.invariant.0 settings steps stands in (
        was.0 + 1,
        omega (arith, was.1, c.in-Some.ensures.fewer),
        printed_more _ _ settings steps was.0 _ _ _ (Noticed (Some c.in-Some.notice)) was.2
            (record { reply_is = λ s calls stand. taken-replies Text nat_eq is_copy is_surely_copied s calls (λ key text. true) (Some c.in-Some.notice) (c.in-Some.ensures.reply s calls stand); stands = c.in-Some.ensures.stands })
            c.in_ok-output.ensures c.in_ok-push.ensures.items,
      )),
  c.loop-notice.invariant.1,
)

pub returns : goal.returns
returns c =
    rw (c.loop-notice.invariant.1) (all_taken _ _ _ _
    (λ settings steps stands.
    let was = c.loop-notice.invariant.0 settings steps stands in
    let left = c.in_default.ensures.none.0 refl in (
      was.0 + 1,
      omega (arith, was.1, left),
      printed_more _ _ settings steps was.0 _ _ _ (Noticed None) was.2
          (record { reply_is = λ s calls stand. taken-replies Text nat_eq is_copy is_surely_copied s calls (λ key text. true) None (c.in_default.ensures.reply s calls stand); stands = c.in_default.ensures.stands })
          c.in_ok-last.ensures c.in_ok-push-2.ensures.items,
    )))
