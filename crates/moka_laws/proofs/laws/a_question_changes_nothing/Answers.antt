use Rattle.std.proofs.Common.{ap, ◌++◌, []}
use Rattle.moka_model.specs.Admission.{frequency}
use Rattle.moka_model.specs.Orders.{orders, standing}
use Rattle.moka_model.specs.Removals.{notices_left}
use Rattle.moka_model.specs.Numbers.{next_number, is_flush_due}
use Rattle.moka_laws.proofs.Questions.{same-events, same-turns, question-step, reply-events}
use Rattle.moka_laws.specs.Laws.{and_then}
use Rattle.moka_laws.proofs.laws.a_question_changes_nothing.Goals as goal

pub returns-clause-step : goal.returns-clause-step
returns-clause-step g c settings steps call asks = question-step g.K.PartialEq.eq settings steps call asks

pub returns-clause-reply : goal.returns-clause-reply
returns-clause-reply g c settings later steps call = reply-events g.K.PartialEq.eq settings (later ++ and_then [] steps) (later ++ steps) (same-events later steps) (same-turns later steps) call

pub returns-clause-standing : goal.returns-clause-standing
returns-clause-standing g c settings later steps k = ap (standing g.K.PartialEq.eq settings k) (same-events later steps)

pub returns-clause-orders : goal.returns-clause-orders
returns-clause-orders g c settings later steps = ap (orders g.K.PartialEq.eq settings) (same-events later steps)

pub returns-clause-flush : goal.returns-clause-flush
returns-clause-flush g c settings later steps = ap (is_flush_due g.K.PartialEq.eq settings) (same-events later steps)

pub returns-clause-notices : goal.returns-clause-notices
returns-clause-notices g c settings later steps = ap (notices_left g.K.PartialEq.eq settings) (same-events later steps)

pub returns-clause-next_number : goal.returns-clause-next_number
returns-clause-next_number g c settings later steps = ap (next_number settings) (same-events later steps)

pub returns-clause-frequency : goal.returns-clause-frequency
returns-clause-frequency g c settings later steps hash = ap (λ h. frequency settings h hash) (same-events later steps)
