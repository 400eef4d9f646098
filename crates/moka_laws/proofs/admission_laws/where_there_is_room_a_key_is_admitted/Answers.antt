use Rattle.moka_laws.proofs.Admissions.{alone-room, alone-too_heavy}
use Rattle.moka_laws.proofs.admission_laws.where_there_is_room_a_key_is_admitted.Goals as goal

pub returns-clause-room : goal.returns-clause-room
returns-clause-room g c settings h at capacity w waits room = alone-room g.K.PartialEq.eq settings at h capacity w waits room

pub returns-clause-too_heavy : goal.returns-clause-too_heavy
returns-clause-too_heavy g c settings h at capacity w waits heavy = alone-too_heavy g.K.PartialEq.eq settings at h capacity w waits heavy
