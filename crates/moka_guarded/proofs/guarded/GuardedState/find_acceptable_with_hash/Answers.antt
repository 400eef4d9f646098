use Rattle.moka_expiration.specs.Behaviour.{hash_by, behaviour_by}
use Rattle.moka_expiration.specs.StateData.{estimates, view_by}
use Rattle.moka_guarded.proofs.Kept.{kept-look}
use Rattle.moka_guarded.proofs.guarded.GuardedState.find_acceptable_with_hash.Goals as goal

pub invariant_of-self : goal.invariant_of-self
invariant_of-self g c =
    let view = view_by (behaviour_by (hash_by g.C.Hasher.BuildHasher.build_hasher g.C.Hasher.Hasher.Hasher.write g.C.Hasher.Hasher.Hasher.finish g.K.Hash.hash_input) g.C.CacheTypes.weight g.C.CacheTypes.lifetimes) (estimates g.C.Frequency.FrequencySource.noted g.C.Frequency.FrequencySource.count) g.C.Frequency.FrequencySource.opened in
    let looks = c.acceptable_entry.ensures.looks in
    kept-look g.C.CacheTypes.keeps g.K.PartialEq.eq g.V.Clone.is_clone g.met.K.Eq.laws g.met.C.CacheTypes.equal_keys_keep view _ _ c.args.key.now looks.0 c.args.now _ looks.1.stands c.self.invariant

pub returns-clause-step : goal.returns-clause-step
returns-clause-step g c = rw (← c.self.view_is) c.acceptable_entry.ensures.looks
