use Rattle.moka_model.proofs.Callers.{count-left, pairs_conserved}
use Rattle.moka_laws.proofs.hiding_laws.each_pair_stands_or_was_noticed.Goals as goal

pub returns-clause-stands_or_left : goal.returns-clause-stands_or_left
returns-clause-stands_or_left g c settings h test alike = pairs_conserved g.K.PartialEq.eq settings test g.met.K.Eq.laws alike h

pub returns-clause-left : goal.returns-clause-left
returns-clause-left g c settings h test = count-left g.K.PartialEq.eq settings test h
