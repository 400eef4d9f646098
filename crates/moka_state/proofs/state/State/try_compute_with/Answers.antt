use Rattle.std.proofs.Common.{Some, None}
use Rattle.moka_turns.specs.Handles.{turn_name}
use Rattle.moka_state.proofs.Results.{err-is}
use Rattle.moka_state.proofs.state.State.try_compute_with.Goals as goal

pub returns-in_err-turn-clause-form : goal.returns-in_err-turn-clause-form
returns-in_err-turn-clause-form g c =
    let begins = c.in_err-turn.ensures.begins in
    rw (err-is c.from_residual.result _ c.from_residual.ensures.1) (
      None,
      None,
      begins.reply,
      tt,
      tt,
      begins.refused,
    )

pub returns-clause-form : goal.returns-clause-form
returns-clause-form g c =
    let begins = c.in_ok-turn.ensures.begins in
    let ends = c.end_tried_compute.ensures.ends in (
      c.in_ok-turn.field-0.shown,
      Some c.f.result,
      λ settings steps stands. (turn_name c.in_ok-turn.field-0.turn, begins.reply settings steps stands, ends settings _ (begins.stands settings steps stands)),
      c.end_tried_compute.ensures.error,
      c.f.ensures,
      tt,
    )
