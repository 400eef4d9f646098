use Rattle.moka_laws.proofs.OwnLives.{own-from, own-rest, own-live}
use Rattle.moka_laws.proofs.own_life_laws.what_is_left_of_a_life.Goals as goal

pub returns-clause-from : goal.returns-clause-from
returns-clause-from g c settings h k w it stands own = own-from g.K.PartialEq.eq settings k h w it stands own

pub returns-clause-left : goal.returns-clause-left
returns-clause-left g c settings h k w it at stands own le = own-rest g.K.PartialEq.eq settings k h w it at stands own le

pub returns-clause-live : goal.returns-clause-live
returns-clause-live g c settings w it at own live = own-live settings w it at own live
