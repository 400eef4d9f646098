use Rattle.moka_laws.proofs.MaintenanceJudged.{parts-too_heavy, parts-room, parts-wins, parts-loses}
use Rattle.moka_laws.proofs.maintenance_laws.one_that_waits_is_judged.Goals as goal

pub returns-clause-too_heavy : goal.returns-clause-too_heavy
returns-clause-too_heavy g c weight capacity is_live wins admitted x live within heavy = parts-too_heavy weight capacity is_live wins admitted x live within heavy

pub returns-clause-room : goal.returns-clause-room
returns-clause-room g c weight capacity is_live wins admitted x live room = parts-room weight capacity is_live wins admitted x live room

pub returns-clause-wins : goal.returns-clause-wins
returns-clause-wins g c weight capacity is_live wins admitted x live within light wins_it = parts-wins weight capacity is_live wins admitted x live within light wins_it

pub returns-clause-loses : goal.returns-clause-loses
returns-clause-loses g c weight capacity is_live wins admitted x live within full loses_it = parts-loses weight capacity is_live wins admitted x live within full loses_it
