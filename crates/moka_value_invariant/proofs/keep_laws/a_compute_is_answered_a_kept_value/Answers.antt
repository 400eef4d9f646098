use Rattle.moka_model.specs.declared.turns.Op.TheVariants as ops
use Rattle.moka_model.specs.declared.turns.Outcome.TheVariants as outcomes
use Rattle.moka_model.specs.Calls.{Finish, Inserted, ReplacedWith, Removed, Unchanged}
use Rattle.moka_value_invariant.proofs.KeptCalls.{said-keeps}
use Rattle.moka_value_invariant.proofs.keep_laws.a_compute_is_answered_a_kept_value.Goals as goal

pub returns-clause-inserted : goal.returns-clause-inserted
returns-clause-inserted g c name v at e owed settings steps legal keep says = said-keeps g.C.CacheTypes.keeps g.K.PartialEq.eq settings g.met.K.Eq.laws g.met.C.CacheTypes.equal_keys_keep steps legal keep (Finish name (outcomes.Op (ops.Put v)) at) (Inserted e) owed says

pub returns-clause-replaced : goal.returns-clause-replaced
returns-clause-replaced g c name v at e owed settings steps legal keep says = said-keeps g.C.CacheTypes.keeps g.K.PartialEq.eq settings g.met.K.Eq.laws g.met.C.CacheTypes.equal_keys_keep steps legal keep (Finish name (outcomes.Op (ops.Put v)) at) (ReplacedWith e) owed says

pub returns-clause-removed : goal.returns-clause-removed
returns-clause-removed g c name at e settings steps legal keep says = said-keeps g.C.CacheTypes.keeps g.K.PartialEq.eq settings g.met.K.Eq.laws g.met.C.CacheTypes.equal_keys_keep steps legal keep (Finish name (outcomes.Op ops.Remove) at) (Removed e) tt says

pub returns-clause-unchanged : goal.returns-clause-unchanged
returns-clause-unchanged g c name at e settings steps legal keep says = said-keeps g.C.CacheTypes.keeps g.K.PartialEq.eq settings g.met.K.Eq.laws g.met.C.CacheTypes.equal_keys_keep steps legal keep (Finish name (outcomes.Op ops.Nop) at) (Unchanged e) tt says
