use Rattle.moka_laws.proofs.Conserved.{values_conserved, values_counted}
use Rattle.moka_laws.proofs.laws.each_write_stands_or_left.Goals as goal

pub returns-clause-in_order : goal.returns-clause-in_order
returns-clause-in_order g c settings h k = values_conserved g.K.PartialEq.eq settings g.met.K.Eq.laws k h

pub returns-clause-counted : goal.returns-clause-counted
returns-clause-counted g c settings h k p = values_counted g.K.PartialEq.eq settings g.met.K.Eq.laws k p h
