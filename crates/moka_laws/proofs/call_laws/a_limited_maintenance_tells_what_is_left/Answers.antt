use Rattle.std.proofs.Common.{refl, Some}
use Rattle.moka_model.specs.Orders.{is_left_at}
use Rattle.moka_model.specs.Steps.{events_in}
use Rattle.moka_laws.proofs.CallEvents.{tells_left}
use Rattle.moka_laws.proofs.call_laws.a_limited_maintenance_tells_what_is_left.Goals as goal

pub returns-clause-left : goal.returns-clause-left
returns-clause-left g c settings steps limit at = (tells_left g.K.PartialEq.eq settings limit at (events_in steps) _ (is_left_at g.K.PartialEq.eq settings (Some limit) at (events_in steps)) refl).0

pub returns-clause-done : goal.returns-clause-done
returns-clause-done g c settings steps limit at = (tells_left g.K.PartialEq.eq settings limit at (events_in steps) _ (is_left_at g.K.PartialEq.eq settings (Some limit) at (events_in steps)) refl).1
