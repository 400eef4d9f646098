use Rattle.moka_value_invariant.proofs.KeptViews.{kept-after, kept-reply}
use Rattle.moka_value_invariant.proofs.keep_laws.a_kept_history_goes_on.Goals as goal

pub returns-clause-next : goal.returns-clause-next
returns-clause-next g c old new call follows owed kept = kept-after g.C.CacheTypes.keeps g.K.PartialEq.eq g.V.Clone.is_clone g.met.K.Eq.laws g.met.C.CacheTypes.equal_keys_keep old new call follows owed kept

pub returns-clause-handed_out : goal.returns-clause-handed_out
returns-clause-handed_out g c view call reply replies owed kept = kept-reply g.C.CacheTypes.keeps g.K.PartialEq.eq g.V.Clone.is_clone g.met.K.Eq.laws g.met.C.CacheTypes.equal_keys_keep g.met.C.CacheTypes.copies_keep view call reply replies owed kept
