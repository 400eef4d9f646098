use Rattle.std.proofs.Common.{refl}
use Rattle.moka_laws.specs.WorkedCalls.{steps_come}
use Rattle.moka_laws.proofs.Flushes.{session-65}
use Rattle.moka_laws.proofs.worked_calls.a_session_with_a_flush.Goals as goal

pub returns : goal.returns
returns c = session-65 (steps_come 64) refl refl refl refl refl
