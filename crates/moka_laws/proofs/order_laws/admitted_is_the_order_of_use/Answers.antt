use Rattle.moka_laws.proofs.Uses.{admitted_in_order, each_used, later_behind}
use Rattle.moka_laws.proofs.order_laws.admitted_is_the_order_of_use.Goals as goal

pub returns-clause-in_order : goal.returns-clause-in_order
returns-clause-in_order g c settings h = admitted_in_order g.K.PartialEq.eq settings g.met.K.Eq.laws h

pub returns-clause-used : goal.returns-clause-used
returns-clause-used g c settings h before after w is = each_used g.K.PartialEq.eq settings g.met.K.Eq.laws h before after w is

pub returns-clause-later_used_behind : goal.returns-clause-later_used_behind
returns-clause-later_used_behind g c settings h before middle after a b is x y = later_behind g.K.PartialEq.eq settings g.met.K.Eq.laws h before middle after a b is x y
