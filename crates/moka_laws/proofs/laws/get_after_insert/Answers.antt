use Rattle.moka_laws.proofs.Written.{get-written, get-ended, get-accepted, get-not_stored}
use Rattle.moka_laws.proofs.laws.get_after_insert.Goals as goal

pub returns-clause-found : goal.returns-clause-found
returns-clause-found g c settings steps k q v at now same le live idle own = get-written g.K.PartialEq.eq settings g.met.K.Eq.laws k q v at now same steps le live idle own

pub returns-clause-expired : goal.returns-clause-expired
returns-clause-expired g c settings steps k q v at now same some = get-ended g.K.PartialEq.eq settings g.met.K.Eq.laws k q v at now same steps some

pub returns-clause-accepted : goal.returns-clause-accepted
returns-clause-accepted g c settings steps k q v at now same le stores live idle own = get-accepted g.K.PartialEq.eq settings g.met.K.Eq.laws k q v at now same steps le stores live idle own

pub returns-clause-not_stored : goal.returns-clause-not_stored
returns-clause-not_stored g c settings steps k q v at now none legal = get-not_stored g.K.PartialEq.eq settings steps k q v at now none legal
