use Rattle.moka_expiration.specs.Behaviour.{hash_by, behaviour_by}
use Rattle.moka_expiration.specs.StateData.{estimates, view_by}
use Rattle.std.specs.Arc.{arc_value}
use Rattle.moka_model.specs.Calls.{Begin}
use Rattle.moka_guarded.proofs.Kept.{kept-call}
use Rattle.moka_guarded.proofs.guarded.GuardedState.begin_missed.Goals as goal

pub invariant_of-self : goal.invariant_of-self
invariant_of-self g c =
    let view = view_by (behaviour_by (hash_by g.C.Hasher.BuildHasher.build_hasher g.C.Hasher.Hasher.Hasher.write g.C.Hasher.Hasher.Hasher.finish g.K.Hash.hash_input) g.C.CacheTypes.weight g.C.CacheTypes.lifetimes) (estimates g.C.Frequency.FrequencySource.noted g.C.Frequency.FrequencySource.count) g.C.Frequency.FrequencySource.opened in
    let missed = rw (← c.self.view_is) at c.requires.missed in
    let begins = c.begin_turn.ensures.begins missed.0 missed.1 in
    kept-call g.C.CacheTypes.keeps g.K.PartialEq.eq g.V.Clone.is_clone g.met.K.Eq.laws g.met.C.CacheTypes.equal_keys_keep view _ _ (Begin (arc_value c.args.key) c.args.kind missed.0 c.args.now) _ begins.stands begins.refused tt c.self.invariant

pub returns-clause-step : goal.returns-clause-step
returns-clause-step g c = rw (← c.self.view_is) c.begin_turn.ensures.begins

pub returns-clause-kept_for : goal.returns-clause-kept_for
returns-clause-kept_for g c = c.begin_turn.ensures.kept_for (arc_value c.args.key)
