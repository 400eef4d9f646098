use Rattle.moka_recorded.proofs.StepForms.{form}
use Rattle.moka_recorded.proofs.Ended.{gives_back}
use Rattle.moka_recorded.proofs.Kept.{step-owed, kept-after-step, kept-in-reply}
use Rattle.moka_recorded.proofs.recorded_state.RecordedStateMachineStepReply.step_recorded.Goals as goal

pub returns-clause-stands : goal.returns-clause-stands
returns-clause-stands g c built history of =
    let kept = of.1 in (
      c.in_ok-reply.ensures.record _ history of.0,
      kept-after-step g.C.CacheTypes.keeps g.K.PartialEq.eq g.V.Clone.is_clone g.V.Clone.is_infallible g.C.CacheTypes.test g.met.K.Eq.laws g.met.C.CacheTypes.equal_keys_keep _ _ c.args.step c.in_ok-reply.reply kept
          (step-owed g.C.CacheTypes.keeps g.C.Predicate.Predicate.tests g.C.CacheTypes.test c.args.step c.requires) (c.in_ok-reply.ensures.stands kept.settings kept.steps kept.stands),
    )

pub returns-clause-replies : goal.returns-clause-replies
returns-clause-replies g c built history of = let kept = of.1 in c.in_ok-reply.ensures.replies kept.settings kept.steps kept.stands

pub returns-clause-fits : goal.returns-clause-fits
returns-clause-fits g c built history of =
    let kept = of.1 in
    let is = c.in_ok-reply.ensures.reply kept.settings kept.steps kept.stands in (
      form g.K.PartialEq.eq g.C.CacheTypes.test g.V.Clone.is_clone g.V.Clone.is_infallible kept.settings kept.steps kept.stands.legal c.args.step c.in_ok-reply.reply is c.in_ok-reply.ensures.given,
      kept-in-reply g.C.CacheTypes.keeps g.K.PartialEq.eq g.V.Clone.is_clone g.V.Clone.is_infallible g.C.CacheTypes.test g.met.K.Eq.laws g.met.C.CacheTypes.equal_keys_keep g.met.C.CacheTypes.copies_keep _ c.args.step c.in_ok-reply.reply kept
          (step-owed g.C.CacheTypes.keeps g.C.Predicate.Predicate.tests g.C.CacheTypes.test c.args.step c.requires) is,
      gives_back g.K.PartialEq.eq g.V.Clone.is_clone g.V.Clone.is_infallible g.C.CacheTypes.test kept.settings kept.steps c.args.step c.in_ok-reply.reply is,
    )
