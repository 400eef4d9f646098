use Rattle.std.proofs.Common.{refl}
use Rattle.moka_expiration.specs.Behaviour.{hash_by, behaviour_by}
use Rattle.moka_expiration.specs.StateData.{estimates}
use Rattle.moka_segmented.proofs.Broadcast.{supported-by}
use Rattle.moka_segmented.proofs.Routed.{not-both}
use Rattle.moka_segmented.proofs.segment.Segmented.invalidate_entries_if.Goals as goal

pub returns-in_err-check_closures_enabled-clause-accepted : goal.returns-in_err-check_closures_enabled-clause-accepted
returns-in_err-check_closures_enabled-clause-accepted g c given calls stand =
    (λ ok. absurd (not-both c.from_residual.result c.from_residual.ensures.0 ok), λ supports. let no = c.in_err-check_closures_enabled.ensures.accepted.1 ((supported-by g.row.C-Error.Denot g.K.PartialEq.eq (behaviour_by (hash_by g.C.Hasher.BuildHasher.build_hasher g.C.Hasher.Hasher.Hasher.write g.C.Hasher.Hasher.Hasher.finish g.K.Hash.hash_input) g.C.CacheTypes.weight g.C.CacheTypes.lifetimes) (estimates g.C.Frequency.FrequencySource.noted g.C.Frequency.FrequencySource.count) g.C.Frequency.FrequencySource.opened c.args.self.now given calls stand).1 supports) in cc)

pub returns-clause-accepted : goal.returns-clause-accepted
returns-clause-accepted g c given calls stand =
    (λ ok. (supported-by g.row.C-Error.Denot g.K.PartialEq.eq (behaviour_by (hash_by g.C.Hasher.BuildHasher.build_hasher g.C.Hasher.Hasher.Hasher.write g.C.Hasher.Hasher.Hasher.finish g.K.Hash.hash_input) g.C.CacheTypes.weight g.C.CacheTypes.lifetimes) (estimates g.C.Frequency.FrequencySource.noted g.C.Frequency.FrequencySource.count) g.C.Frequency.FrequencySource.opened c.args.self.now given calls stand).0 (c.in_ok-check_closures_enabled.ensures.accepted.0 refl), λ supports. refl)

pub returns-clause-stands : goal.returns-clause-stands
returns-clause-stands g c = rw c.in_ok-check_closures_enabled.ensures.same at c.hide_in_all.ensures.stands

pub returns-clause-settings : goal.returns-clause-settings
returns-clause-settings g c = rw c.in_ok-check_closures_enabled.ensures.same at c.hide_in_all.ensures.settings
