use Rattle.std.proofs.Common.{◌≡◌, refl}
use Rattle.moka_model.specs.declared.turns.Op.TheVariants.{Put}
use Rattle.moka_model.specs.declared.turns.Outcome.{Outcome}
use Rattle.moka_model.specs.declared.turns.Outcome.TheVariants.{Op}
use Rattle.moka_state.specs.Finish.{OutcomeKeeps}
use Rattle.moka_state.specs.Step.{StepKeeps}
use Rattle.moka_state.specs.declared.step.Step.TheVariants.{InvalidateIf, Finish}
use Rattle.mokabox_syntax.specs.Command.{plain_command}
use Rattle.mokabox_interpreter.specs.Script.{Text, ScriptStep}
use Rattle.mokabox_interpreter.specs.Session.{IsStepOf, holds_of}
use Rattle.mokabox_interpreter.proofs.SessionLaws.{moved, one_call}
use Rattle.mokabox_interpreter.proofs.session.Session.execute.Goals as goal
use Rattle.mokabox_interpreter.proofs.session.Session.execute.Goals.{in-Insert+in_ok-step-in-Insert, in-Get+in_ok-step-in-Get, in-Has+in_ok-step-in-Has, in-Invalidate+in_ok-step-in-Invalidate, in-Remove+in_ok-step-in-Remove, in-InvalidateAll, in-InvalidateIf+in_ok-step-in-InvalidateIf, in-Tasks}
use Rattle.mokabox_interpreter.proofs.session.Session.execute.Goals.{in-OrInsert+in_ok-step-in-OrInsert, in-TasksUpTo, in-Count, in-Weight, in-Begin+in_ok-step-in-Begin, in-BeginCompute+in_ok-step-in-BeginCompute, in-Finish+in_ok-step-in-Finish, in-Abandon+in_ok-step-in-Abandon, in-Collect+in_ok-step-in-Collect, in-Leave+in_ok-step-in-Leave}

pub returns-in-At : goal.returns-in-At
returns-in-At c = rw (c.in-At.is, c.new.ensures.items) (moved _ _ c.in-At.moment)

pub returns-in-Notices : goal.returns-in-Notices
returns-in-Notices c = rw c.in-Notices.is c.notices.ensures

pub returns-in-Policy : goal.returns-in-Policy
returns-in-Policy c = rw c.in-Policy.is c.policy.ensures

pub returns-in-Walk : goal.returns-in-Walk
returns-in-Walk c = rw c.in-Walk.is c.walk.ensures

outcome_owed : {E : Type 0} (outcome : Outcome Text E) → OutcomeKeeps (λ text. Unit {0}) outcome
outcome_owed (Op (Put text)) = tt
outcome_owed outcome = tt

-- Each text may be stored, and each predicate tests what it means.
step_owed : (step : ScriptStep) → StepKeeps (λ key text. Unit {0}) (λ it test. test ≡ holds_of it) holds_of step
step_owed (InvalidateIf predicate) = refl
step_owed (Finish name outcome now) = outcome_owed outcome
step_owed step = tt

pub step-requires : goal.step-requires
step-requires c = step_owed c.match-command.step

pub returns : goal.returns
returns c =
    let one : IsStepOf c.args.self.now.moment (plain_command c.args.command) c.match-command.step = elim c.match-command.branch [
      | in-Insert+in_ok-step-in-Insert w ↦ rw (w.in-Insert.is, w.step-is) w.in_ok-step-in-Insert.ensures
      | in-OrInsert+in_ok-step-in-OrInsert w ↦ rw (w.in-OrInsert.is, w.step-is) w.in_ok-step-in-OrInsert.ensures
      | in-Get+in_ok-step-in-Get w ↦ rw (w.in-Get.is, w.step-is) w.in_ok-step-in-Get.ensures
      | in-Has+in_ok-step-in-Has w ↦ rw (w.in-Has.is, w.step-is) w.in_ok-step-in-Has.ensures
      | in-Invalidate+in_ok-step-in-Invalidate w ↦ rw (w.in-Invalidate.is, w.step-is) w.in_ok-step-in-Invalidate.ensures
      | in-Remove+in_ok-step-in-Remove w ↦ rw (w.in-Remove.is, w.step-is) w.in_ok-step-in-Remove.ensures
      | in-InvalidateAll w ↦ rw (w.in-InvalidateAll.is, w.step-is) (record { makes = λ notices. refl; stays = λ at. refl; prints_no_own = λ settings before. refl; owed = tt })
      | in-InvalidateIf+in_ok-step-in-InvalidateIf w ↦ rw (w.in-InvalidateIf.is, w.step-is) w.in_ok-step-in-InvalidateIf.ensures
      | in-Tasks w ↦ rw (w.in-Tasks.is, w.step-is) (record { makes = λ notices. refl; stays = λ at. refl; prints_no_own = λ settings before. refl; owed = tt })
      | in-TasksUpTo w ↦ rw (w.in-TasksUpTo.is, w.step-is) (record { makes = λ notices. refl; stays = λ at. refl; prints_no_own = λ settings before. refl; owed = tt })
      | in-Count w ↦ rw (w.in-Count.is, w.step-is) (record { makes = λ notices. refl; stays = λ at. refl; prints_no_own = λ settings before. refl; owed = tt })
      | in-Weight w ↦ rw (w.in-Weight.is, w.step-is) (record { makes = λ notices. refl; stays = λ at. refl; prints_no_own = λ settings before. refl; owed = tt })
      | in-Begin+in_ok-step-in-Begin w ↦ rw (w.in-Begin.is, w.step-is) w.in_ok-step-in-Begin.ensures
      | in-BeginCompute+in_ok-step-in-BeginCompute w ↦ rw (w.in-BeginCompute.is, w.step-is) w.in_ok-step-in-BeginCompute.ensures
      | in-Finish+in_ok-step-in-Finish w ↦ rw (w.in-Finish.is, w.step-is) w.in_ok-step-in-Finish.ensures
      | in-Abandon+in_ok-step-in-Abandon w ↦ rw (w.in-Abandon.is, w.step-is) w.in_ok-step-in-Abandon.ensures
      | in-Collect+in_ok-step-in-Collect w ↦ rw (w.in-Collect.is, w.step-is) w.in_ok-step-in-Collect.ensures
      | in-Leave+in_ok-step-in-Leave w ↦ rw (w.in-Leave.is, w.step-is) w.in_ok-step-in-Leave.ensures
    ] in
    one_call _ _ _ _ c.match-command.step c.step.result c.in_ok-output.output _ one (record { reply_is = c.step.ensures.reply; stands = c.step.ensures.stands }) c.in_ok-output.ensures c.in_ok-vec.ensures.items
