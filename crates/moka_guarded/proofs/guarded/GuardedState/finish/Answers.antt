use Rattle.moka_expiration.specs.Behaviour.{hash_by, behaviour_by}
use Rattle.moka_expiration.specs.StateData.{estimates, view_by}
use Rattle.moka_model.specs.Calls.{Finish}
use Rattle.moka_guarded.proofs.Kept.{kept-call, finish-keeps, outcome-owed}
use Rattle.moka_turns.specs.Handles.{turn_name}
use Rattle.moka_state.specs.Finish.{outcome_of}
use Rattle.moka_guarded.proofs.guarded.GuardedState.finish.Goals as goal

pub invariant_of-self : goal.invariant_of-self
invariant_of-self g c =
    let view = view_by (behaviour_by (hash_by g.C.Hasher.BuildHasher.build_hasher g.C.Hasher.Hasher.Hasher.write g.C.Hasher.Hasher.Hasher.finish g.K.Hash.hash_input) g.C.CacheTypes.weight g.C.CacheTypes.lifetimes) (estimates g.C.Frequency.FrequencySource.noted g.C.Frequency.FrequencySource.count) g.C.Frequency.FrequencySource.opened in
    kept-call g.C.CacheTypes.keeps g.K.PartialEq.eq g.V.Clone.is_clone g.met.K.Eq.laws g.met.C.CacheTypes.equal_keys_keep view _ _ (Finish (turn_name c.args.turn) (outcome_of c.args.outcome) c.now-now.result) _ c.finish.ensures.stands c.finish.ensures.refused (outcome-owed g.C.CacheTypes.keeps (turn_name c.args.turn) c.now-now.result c.args.outcome c.requires.kept) c.self.invariant

pub returns-clause-kept : goal.returns-clause-kept
returns-clause-kept g c =
    let view = view_by (behaviour_by (hash_by g.C.Hasher.BuildHasher.build_hasher g.C.Hasher.Hasher.Hasher.write g.C.Hasher.Hasher.Hasher.finish g.K.Hash.hash_input) g.C.CacheTypes.weight g.C.CacheTypes.lifetimes) (estimates g.C.Frequency.FrequencySource.noted g.C.Frequency.FrequencySource.count) g.C.Frequency.FrequencySource.opened in
    finish-keeps g.C.CacheTypes.keeps g.K.PartialEq.eq g.V.Clone.is_clone g.met.K.Eq.laws g.met.C.CacheTypes.equal_keys_keep view g.met.C.CacheTypes.copies_keep g.V.Clone.is_infallible c.self.inside.state (turn_name c.args.turn) (outcome_of c.args.outcome) c.now-now.result _
    (outcome-owed g.C.CacheTypes.keeps (turn_name c.args.turn) c.now-now.result c.args.outcome c.requires.kept) c.finish.ensures.reply c.self.invariant

pub returns-clause-step : goal.returns-clause-step
returns-clause-step g c = rw (← c.self.view_is) (c.now-now.result, c.now-now.ensures, c.finish.ensures)
