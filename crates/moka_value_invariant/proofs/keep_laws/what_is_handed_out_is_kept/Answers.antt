use Rattle.moka_value_invariant.proofs.KeptCalls.{said-keeps}
use Rattle.moka_value_invariant.proofs.KeptCopies.{copy-keeps}
use Rattle.moka_value_invariant.proofs.keep_laws.what_is_handed_out_is_kept.Goals as goal

pub returns-clause-reply : goal.returns-clause-reply
returns-clause-reply g c call reply owed settings steps legal keep says = said-keeps g.C.CacheTypes.keeps g.K.PartialEq.eq settings g.met.K.Eq.laws g.met.C.CacheTypes.equal_keys_keep steps legal keep call reply owed says

pub returns-clause-copy : goal.returns-clause-copy
returns-clause-copy g c call reply copy is kept = copy-keeps g.C.CacheTypes.keeps g.V.Clone.is_clone g.met.C.CacheTypes.copies_keep call reply copy is kept
