use Rattle.moka_expiration.specs.Behaviour.{hash_by, behaviour_by}
use Rattle.moka_expiration.specs.StateData.{estimates, view_by}
use Rattle.moka_recorded_laws.proofs.EqualCopies.{is-run}
use Rattle.moka_recorded_laws.proofs.legal_laws.a_history_of_equal_clones_is_legal.Goals as goal

pub returns : goal.returns
returns g c equal settings state history record_of =
    let view = view_by (behaviour_by (hash_by g.C.Hasher.BuildHasher.build_hasher g.C.Hasher.Hasher.Hasher.write g.C.Hasher.Hasher.Hasher.finish g.K.Hash.hash_input) g.C.CacheTypes.weight g.C.CacheTypes.lifetimes) (estimates g.C.Frequency.FrequencySource.noted g.C.Frequency.FrequencySource.count) g.C.Frequency.FrequencySource.opened in
    is-run g.V.Clone.is_clone equal g.K.PartialEq.eq g.V.Clone.is_infallible settings g.C.CacheTypes.test view state history record_of
