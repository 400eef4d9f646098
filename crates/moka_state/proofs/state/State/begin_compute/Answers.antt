use Rattle.std.specs.Arc.{arc_value}
use Rattle.moka_model.specs.Calls.{BeginCompute}
use Rattle.moka_state.specs.Given.{of_begin_compute}
use Rattle.moka_state.proofs.ComputeForms.{when-waiting}
use Rattle.moka_state.proofs.state.State.begin_compute.Goals as goal

pub returns-in-Ok-clause-begins : goal.returns-in-Ok-clause-begins
returns-in-Ok-clause-begins g c =
    let begins = rw c.in-Ok.ensures.cases at c.begin_computing.ensures.begins in
    record {
      reply = λ settings steps stands.
          when-waiting g.K.PartialEq.eq g.V.Clone.is_clone g.V.Clone.is_infallible settings steps (BeginCompute (arc_value c.args.key.now) c.args.keep c.args.now) (of_begin_compute c.begin_computing.result) (begins.reply settings steps stands);
      stands = begins.stands;
      refused = begins.refused;
    }
