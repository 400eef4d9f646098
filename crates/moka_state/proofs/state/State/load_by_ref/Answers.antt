use Rattle.std.proofs.Common.{Some, None, ◌∙◌}
use Rattle.moka_turns.specs.Handles.{turn_name}
use Rattle.moka_state.proofs.Forms.{finish-is-known, if-ok}
use Rattle.moka_state.proofs.Loaders.{owes-more, value-more}
use Rattle.moka_state.proofs.Results.{err-is}
use Rattle.moka_state.proofs.state.State.load_by_ref.Goals as goal

pub returns-in_err-begun-clause-form : goal.returns-in_err-begun-clause-form
returns-in_err-begun-clause-form g c =
    let begins = rw c.kind.ensures.is at c.in_err-begun.ensures.begins in
    rw (err-is c.from_residual.result _ c.from_residual.ensures.1) (
      begins.0,
      begins.1,
      (
        None,
        λ settings steps stands. begins.2.reply settings steps stands,
        tt,
        begins.2.refused,
      ),
    )

pub returns-in-Found-clause-form : goal.returns-in-Found-clause-form
returns-in-Found-clause-form g c =
    let begins = rw (c.in-Found.is, c.kind.ensures.is) at c.in_ok-begun.ensures.begins in
    rw c.found.ensures (
      begins.0,
      begins.1,
      (
        None,
        λ settings steps stands. (tt, begins.2.reply settings steps stands, begins.2.stands settings steps stands),
        tt,
        tt,
      ),
    )

pub returns-in-Run-clause-form : goal.returns-in-Run-clause-form
returns-in-Run-clause-form g c =
    let begins = rw (c.in-Run.is, c.kind.ensures.is) at c.in_ok-begun.ensures.begins in
    let initializer = rw c.kind.ensures.is at c.kind.ensures.initializer in
    let ends = c.end_with.ensures.ends in (
      begins.0,
      begins.1,
      (
        Some c.init.result,
        λ settings steps stands.
            let known = finish-is-known g.K.PartialEq.eq g.met.K.Eq.laws g.V.Clone.is_clone g.V.Clone.is_infallible settings steps begins.0 g.G.LoaderResult.kind_of initializer None c.args.now (turn_name c.in-Run.turn) (begins.2.reply settings steps stands) (g.G.LoaderResult.outcome c.init.result) (rw begins.3.0 c.end_with.ensures.fits) c.args.now in
            (turn_name c.in-Run.turn, begins.2.reply settings steps stands, ends settings _ (begins.2.stands settings steps stands) known),
        c.init.ensures,
        tt,
      ),
    )

pub end_with-requires-clause-kept : goal.end_with-requires-clause-kept
end_with-requires-clause-kept g c =
    let begins = rw c.in-Run.is at c.in_ok-begun.ensures.begins in
    rw begins.3.1 (owes-more (λ v. g.met.C.CacheTypes.equal_keys_keep c.args.key.now begins.0 v begins.1.0) _ (c.requires.keeps c.init.result c.init.ensures))

pub returns-in-Run-clause-kept : goal.returns-in-Run-clause-kept
returns-in-Run-clause-kept g c =
    let begins = rw c.in-Run.is at c.in_ok-begun.ensures.begins in
    let kept = rw begins.3.1 at c.end_with.ensures.kept in
    if-ok c.end_with.result (λ loaded. value-more (λ v. g.met.C.CacheTypes.equal_keys_keep begins.0 c.args.key.now v (g.met.K.Eq.laws.symm begins.0 c.args.key.now ∙ begins.1.0)) _) kept
