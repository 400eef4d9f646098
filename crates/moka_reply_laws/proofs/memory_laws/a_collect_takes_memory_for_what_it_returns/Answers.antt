use Rattle.moka_model.specs.Calls.{Collect, accepted}
use Rattle.moka_model.specs.Turns.{found, has_ticket_as}
use Rattle.moka_model.specs.Steps.{turns}
use Rattle.moka_reply_laws.proofs.Memory.{replied, safe}
use Rattle.moka_reply_laws.proofs.memory_laws.a_collect_takes_memory_for_what_it_returns.Goals as goal

pub returns-clause-reply : goal.returns-clause-reply
returns-clause-reply g c settings steps name may = replied g.V.Clone.is_infallible g.V.Clone.is_clone name (found (has_ticket_as g.K.PartialEq.eq name) (turns steps)) may

pub returns-clause-safe : goal.returns-clause-safe
returns-clause-safe g c settings steps name e all says may = safe g.V.Clone.is_infallible g.V.Clone.is_clone (accepted g.K.PartialEq.eq settings steps (Collect name)) e all says may
