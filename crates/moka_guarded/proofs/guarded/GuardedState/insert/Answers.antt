use Rattle.moka_expiration.specs.Behaviour.{hash_by, behaviour_by}
use Rattle.moka_expiration.specs.StateData.{estimates, view_by}
use Rattle.moka_model.specs.Calls.{Insert}
use Rattle.moka_guarded.proofs.Kept.{kept-call}
use Rattle.moka_guarded.proofs.guarded.GuardedState.insert.Goals as goal

pub invariant_of-self : goal.invariant_of-self
invariant_of-self g c =
    let view = view_by (behaviour_by (hash_by g.C.Hasher.BuildHasher.build_hasher g.C.Hasher.Hasher.Hasher.write g.C.Hasher.Hasher.Hasher.finish g.K.Hash.hash_input) g.C.CacheTypes.weight g.C.CacheTypes.lifetimes) (estimates g.C.Frequency.FrequencySource.noted g.C.Frequency.FrequencySource.count) g.C.Frequency.FrequencySource.opened in
    kept-call g.C.CacheTypes.keeps g.K.PartialEq.eq g.V.Clone.is_clone g.met.K.Eq.laws g.met.C.CacheTypes.equal_keys_keep view _ _ (Insert c.args.key c.args.value c.now-now.result) _ c.insert.ensures.ends.stands c.insert.ensures.ends.refused c.requires c.self.invariant

pub returns : goal.returns
returns g c = rw (← c.self.view_is) (c.now-now.result, c.now-now.ensures, c.insert.ensures.ends)
