use Rattle.moka_laws.proofs.OwnLives.{created-own, updated-own, read-own, not_asked}
use Rattle.moka_laws.proofs.own_life_laws.the_expiry_is_asked_at_writes_and_hits.Goals as goal

pub returns-clause-created : goal.returns-clause-created
returns-clause-created g c settings h k q v at w same none stands = created-own g.K.PartialEq.eq settings k h q v at w same none stands

pub returns-clause-updated : goal.returns-clause-updated
returns-clause-updated g c settings h k q v at old w same found stands = updated-own g.K.PartialEq.eq settings k h q v at old w same found stands

pub returns-clause-read : goal.returns-clause-read
returns-clause-read g c settings h k q at old w same found stands = read-own g.K.PartialEq.eq settings k h q at old w same found stands

pub returns-clause-kept : goal.returns-clause-kept
returns-clause-kept g c settings h k e w apart stands = not_asked g.K.PartialEq.eq settings k h e w apart stands
