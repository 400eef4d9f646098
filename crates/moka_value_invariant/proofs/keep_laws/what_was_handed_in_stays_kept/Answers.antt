use Rattle.moka_value_invariant.proofs.KeptCalls.{steps-keep}
use Rattle.moka_value_invariant.proofs.keep_laws.what_was_handed_in_stays_kept.Goals as goal

pub returns-clause-next : goal.returns-clause-next
returns-clause-next g c call owed settings steps legal keep = steps-keep g.C.CacheTypes.keeps g.K.PartialEq.eq settings g.met.K.Eq.laws g.met.C.CacheTypes.equal_keys_keep steps legal keep call owed
