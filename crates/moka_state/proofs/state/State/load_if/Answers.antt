use Rattle.std.proofs.Common.{Some, None}
use Rattle.moka_turns.specs.Handles.{turn_name}
use Rattle.moka_state.proofs.Forms.{finish-is-known}
use Rattle.moka_state.proofs.Results.{err-is}
use Rattle.moka_state.proofs.state.State.load_if.Goals as goal

pub returns-in_err-begun-clause-form : goal.returns-in_err-begun-clause-form
returns-in_err-begun-clause-form g c =
    let begins = rw c.kind.ensures.is at c.in_err-begun.ensures.begins in
    rw (err-is c.from_residual.result _ c.from_residual.ensures.1) (
      begins.0,
      None,
      λ settings steps stands. ((begins.1.reply settings steps stands).0, (begins.1.reply settings steps stands).1),
      tt,
      begins.1.refused,
    )

pub returns-in-Found-clause-form : goal.returns-in-Found-clause-form
returns-in-Found-clause-form g c =
    let begins = rw (c.in-Found.is, c.kind.ensures.is) at c.in_ok-begun.ensures.begins in
    rw c.found.ensures (
      begins.0,
      None,
      λ settings steps stands. ((begins.1.reply settings steps stands).0, (tt, (begins.1.reply settings steps stands).1, begins.1.stands settings steps stands)),
      tt,
      tt,
    )

pub returns-in-Run-clause-form : goal.returns-in-Run-clause-form
returns-in-Run-clause-form g c =
    let begins = rw (c.in-Run.is, c.kind.ensures.is) at c.in_ok-begun.ensures.begins in
    let named = rw (c.in-Run.is, c.kind.ensures.is) at c.in_ok-begun.ensures.named in
    let initializer = rw c.kind.ensures.is at c.kind.ensures.initializer in
    let ends = c.end_with.ensures.ends in (
      begins.0,
      Some c.init.result,
      λ settings steps stands.
          let known = finish-is-known g.K.PartialEq.eq g.met.K.Eq.laws g.V.Clone.is_clone g.V.Clone.is_infallible settings steps c.args.key g.G.LoaderResult.kind_of initializer begins.0 c.args.now (turn_name c.in-Run.turn) (begins.1.reply settings steps stands).1 (g.G.LoaderResult.outcome c.init.result) (rw named.0 c.end_with.ensures.fits) c.args.now in
          ((begins.1.reply settings steps stands).0, (turn_name c.in-Run.turn, (begins.1.reply settings steps stands).1, ends settings _ (begins.1.stands settings steps stands) known)),
      c.init.ensures,
      tt,
    )
