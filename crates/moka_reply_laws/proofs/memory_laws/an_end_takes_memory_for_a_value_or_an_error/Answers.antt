use Rattle.moka_model.specs.Steps.{events_in}
use Rattle.moka_model.specs.Calls.{Finish, accepted, live_at}
use Rattle.moka_reply_laws.proofs.Memory.{missed, rejected}
use Rattle.moka_reply_laws.proofs.memory_laws.an_end_takes_memory_for_a_value_or_an_error.Goals as goal

pub returns-clause-nothing : goal.returns-clause-nothing
returns-clause-nothing g c settings steps name at = (λ may. may.1, λ may. may.1)

pub returns-clause-miss : goal.returns-clause-miss
returns-clause-miss g c settings steps name at says may = missed g.V.Clone.is_infallible (live_at g.K.PartialEq.eq settings name.key at (events_in steps)) says may.1

pub returns-clause-rejected : goal.returns-clause-rejected
returns-clause-rejected g c settings steps name outcome at says may = rejected g.V.Clone.is_infallible (accepted g.K.PartialEq.eq settings steps (Finish name outcome at)) says may.0
