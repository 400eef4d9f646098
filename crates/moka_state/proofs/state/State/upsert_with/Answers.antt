use Rattle.std.proofs.Common.{Some, None, Err, refl}
use Rattle.moka_turns.specs.Handles.{turn_name}
use Rattle.moka_state.proofs.Results.{err-is}
use Rattle.moka_state.proofs.state.State.upsert_with.Goals as goal

pub returns-in_err-turn-clause-form : goal.returns-in_err-turn-clause-form
returns-in_err-turn-clause-form g c =
    let begins = c.in_err-turn.ensures.begins in
    rw (err-is c.from_residual.result _ c.from_residual.ensures.1) (
      None,
      None,
      Err c.in_err-turn.field-0.0,
      begins.reply,
      refl,
      tt,
      begins.refused,
    )

pub returns-clause-form : goal.returns-clause-form
returns-clause-form g c =
    let begins = c.in_ok-turn.ensures.begins in
    let ends = c.end_with_put.ensures.ends in (
      c.in_ok-turn.field-0.shown,
      Some c.f.result,
      ends.0,
      λ settings steps stands. (turn_name c.in_ok-turn.field-0.turn, begins.reply settings steps stands, ends.1 settings _ (begins.stands settings steps stands)),
      ends.2,
      c.f.ensures,
      tt,
    )
