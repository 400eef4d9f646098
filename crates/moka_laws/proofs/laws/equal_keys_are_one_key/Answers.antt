use Rattle.moka_model.proofs.Callers.{standing_congr}
use Rattle.moka_model.specs.Steps.{events_in}
use Rattle.moka_laws.proofs.laws.equal_keys_are_one_key.Goals as goal

pub returns-clause-standing : goal.returns-clause-standing
returns-clause-standing g c settings h k q same = standing_congr g.K.PartialEq.eq settings g.met.K.Eq.laws k q h same

pub returns-clause-looks : goal.returns-clause-looks
returns-clause-looks g c settings steps k q at same = (rw (standing_congr g.K.PartialEq.eq settings g.met.K.Eq.laws k q (events_in steps) same), rw (standing_congr g.K.PartialEq.eq settings g.met.K.Eq.laws k q (events_in steps) same))
