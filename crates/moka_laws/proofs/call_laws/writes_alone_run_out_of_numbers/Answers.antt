use Rattle.moka_model.proofs.Callers.{out_of_numbers-insert}
use Rattle.moka_laws.proofs.CallSteps.{none_drawn}
use Rattle.moka_laws.proofs.OrInserts.{out_of_numbers-or_insert}
use Rattle.moka_laws.proofs.call_laws.writes_alone_run_out_of_numbers.Goals as goal

pub returns-clause-write : goal.returns-clause-write
returns-clause-write g c settings steps k v at = out_of_numbers-insert g.K.PartialEq.eq settings k v at steps

pub returns-clause-or_insert : goal.returns-clause-or_insert
returns-clause-or_insert g c settings steps k v at = out_of_numbers-or_insert g.K.PartialEq.eq settings k v at steps

pub returns-clause-others : goal.returns-clause-others
returns-clause-others g c settings steps call out = none_drawn g.K.PartialEq.eq settings steps call out
