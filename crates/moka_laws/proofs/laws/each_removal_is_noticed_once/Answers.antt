use Rattle.moka_model.proofs.Callers.{taken-le}
use Rattle.moka_model.proofs.Callers.{given_out-append-notices_left, length-given_out}
use Rattle.moka_laws.proofs.Notices.{next_notice, notice_gives, no_notice}
use Rattle.moka_laws.proofs.laws.each_removal_is_noticed_once.Goals as goal

pub returns-clause-in_order : goal.returns-clause-in_order
returns-clause-in_order g c settings h = given_out-append-notices_left g.K.PartialEq.eq settings h

pub returns-clause-counted : goal.returns-clause-counted
returns-clause-counted g c settings h = (length-given_out g.K.PartialEq.eq settings h, taken-le g.K.PartialEq.eq settings h)

pub returns-clause-next : goal.returns-clause-next
returns-clause-next g c settings steps = next_notice g.K.PartialEq.eq settings steps

pub returns-clause-gives : goal.returns-clause-gives
returns-clause-gives g c settings steps o is = notice_gives g.K.PartialEq.eq settings steps o is

pub returns-clause-none : goal.returns-clause-none
returns-clause-none g c settings steps = no_notice g.K.PartialEq.eq settings steps
