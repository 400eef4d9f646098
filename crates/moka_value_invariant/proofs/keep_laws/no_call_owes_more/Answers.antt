use Rattle.moka_value_invariant.proofs.Owed.{owed-nothing}
use Rattle.moka_value_invariant.proofs.keep_laws.no_call_owes_more.Goals as goal

pub returns : goal.returns
returns g c all call = owed-nothing g.C.CacheTypes.keeps all call
