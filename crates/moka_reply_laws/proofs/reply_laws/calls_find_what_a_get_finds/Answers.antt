use Rattle.std.proofs.Common.{Some, refl, ap}
use Rattle.moka_model.specs.declared.turns.Kind.TheVariants.{Compute}
use Rattle.moka_model.specs.Turns.{found, is_open_for}
use Rattle.moka_model.specs.Steps.{events_in, turns}
use Rattle.moka_model.specs.Calls.{live_at, Found, Removed, StillNone}
use Rattle.moka_reply_laws.proofs.Looks.{contains-found, shown-live, removed-live, missed-live, of-finish}
use Rattle.moka_reply_laws.proofs.reply_laws.calls_find_what_a_get_finds.Goals as goal

pub returns-clause-remove : goal.returns-clause-remove
returns-clause-remove g c settings steps k at = refl

pub returns-clause-contains_key : goal.returns-clause-contains_key
returns-clause-contains_key g c settings steps k at value finds = contains-found (live_at g.K.PartialEq.eq settings k at (events_in steps)) value finds

pub returns-clause-shown : goal.returns-clause-shown
returns-clause-shown g c settings steps k keep at name shown says = ap (λ o. Some (Found o)) (shown-live g.K.PartialEq.eq settings steps k keep at (found (is_open_for g.K.PartialEq.eq Compute k) (turns steps)) name shown says)

pub returns-clause-removed : goal.returns-clause-removed
returns-clause-removed g c settings steps name at e says = ap (λ o. Some (Found o)) (removed-live name (live_at g.K.PartialEq.eq settings name.key at (events_in steps)) e (of-finish g.K.PartialEq.eq settings steps name at (Removed e) says))

pub returns-clause-still_none : goal.returns-clause-still_none
returns-clause-still_none g c settings steps name at k says = ap (λ o. Some (Found o)) (missed-live name (live_at g.K.PartialEq.eq settings name.key at (events_in steps)) k (of-finish g.K.PartialEq.eq settings steps name at (StillNone k) says))
