use Rattle.std.proofs.Common.{sym, subst}
use Rattle.moka_model.specs.Calls.{IsLegal}
use Rattle.moka_model.proofs.Callers.{IsLegal-after}
use Rattle.moka_laws.proofs.call_laws.calls_give_legal_lists.Goals as goal

pub returns-clause-none : goal.returns-clause-none
returns-clause-none g c settings none is = subst (IsLegal g.K.PartialEq.eq settings) (sym is) tt

pub returns-clause-next : goal.returns-clause-next
returns-clause-next g c settings steps call legal = IsLegal-after g.K.PartialEq.eq settings call steps legal
