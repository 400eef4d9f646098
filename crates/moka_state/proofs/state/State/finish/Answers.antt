use Rattle.std.proofs.Common.{refl, ap, sym, subst}
use Rattle.std.specs.declared.sync.Arc.{Arc}
use Rattle.std.specs.declared.alloc.Global.{Global}
use Rattle.moka_model.specs.Turns.{Name}
use Rattle.moka_turns.specs.Handles.{turn_name}
use Rattle.moka_model.specs.declared.turns.Outcome.TheVariants as outcomes
use Rattle.moka_state.specs.Finish.{outcome_of, OutcomeKeeps}
use Rattle.moka_state.proofs.Finishes.{finish-unknown, finishes-as}
use Rattle.moka_state.proofs.state.State.finish.Goals as goal

pub returns-in-Err : goal.returns-in-Err
returns-in-Err g c = record {
  reply = λ given steps stands. finish-unknown g.K.PartialEq.eq given steps (turn_name c.args.turn) (outcome_of c.args.outcome) c.args.now c.requires.fits g.V.Clone.is_clone g.V.Clone.is_infallible (c.in-Err.ensures.unknown.1 given steps stands);
  stands = tt;
  given = tt;
  refused = refl;
  turn_back = c.in-Err.ensures.unknown.0;
  outcome_back = refl;
  settings = refl;
}

pub finish_with-requires-clause-fits : goal.finish_with-requires-clause-fits
finish_with-requires-clause-fits g c = rw (ap (λ (n : Name _). n.kind) c.in-Ok.ensures.name) (rw c.in-Value.is at c.requires.fits)

pub finish_with-requires-clause-kept : goal.finish_with-requires-clause-kept
finish_with-requires-clause-kept g c = rw (ap (λ (n : Name _). n.key) c.in-Ok.ensures.name) (rw c.in-Value.is at c.requires.kept)

pub finish_without-requires-clause-fits : goal.finish_without-requires-clause-fits
finish_without-requires-clause-fits g c = rw (ap (λ (n : Name _). n.kind) c.in-Ok.ensures.name) (rw c.in-Nothing.is at c.requires.fits)

pub finish_failed-requires-clause-fits : goal.finish_failed-requires-clause-fits
finish_failed-requires-clause-fits g c = rw (ap (λ (n : Name _). n.kind) c.in-Ok.ensures.name) (rw c.in-Failed.is at c.requires.fits)

pub finish_op-requires-clause-fits : goal.finish_op-requires-clause-fits
finish_op-requires-clause-fits g c = rw (ap (λ (n : Name _). n.kind) c.in-Ok.ensures.name) (rw c.in-Op.is at c.requires.fits)

pub finish_op-requires-clause-kept : goal.finish_op-requires-clause-kept
finish_op-requires-clause-kept g c = subst (λ k. OutcomeKeeps {E = Arc g.row.C-Error.Denot Global} (g.C.CacheTypes.keeps k) (outcomes.Op c.in-Op.op)) (sym (ap (λ (n : Name _). n.key) c.in-Ok.ensures.name)) (rw c.in-Op.is at c.requires.kept)

pub returns-in-Value : goal.returns-in-Value
returns-in-Value g c = rw c.in-Value.is (finishes-as c.in-Ok.ensures.is_open c.in-Ok.ensures.name c.finish_with.ensures)

pub returns-in-Nothing : goal.returns-in-Nothing
returns-in-Nothing g c = rw c.in-Nothing.is (finishes-as c.in-Ok.ensures.is_open c.in-Ok.ensures.name c.finish_without.ensures)

pub returns-in-Failed : goal.returns-in-Failed
returns-in-Failed g c = rw c.in-Failed.is (finishes-as c.in-Ok.ensures.is_open c.in-Ok.ensures.name c.finish_failed.ensures)

pub returns-in-Op : goal.returns-in-Op
returns-in-Op g c = rw c.in-Op.is (finishes-as c.in-Ok.ensures.is_open c.in-Ok.ensures.name c.finish_op.ensures)
