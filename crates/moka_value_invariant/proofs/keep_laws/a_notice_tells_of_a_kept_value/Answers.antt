use Rattle.std.proofs.Common.{Some}
use Rattle.moka_model.specs.Calls.{TakeNotice, Noticed}
use Rattle.moka_value_invariant.proofs.KeptCalls.{said-keeps}
use Rattle.moka_value_invariant.proofs.keep_laws.a_notice_tells_of_a_kept_value.Goals as goal

pub returns : goal.returns
returns g c l settings steps legal keep says = said-keeps g.C.CacheTypes.keeps g.K.PartialEq.eq settings g.met.K.Eq.laws g.met.C.CacheTypes.equal_keys_keep steps legal keep TakeNotice (Noticed (Some l)) tt says
