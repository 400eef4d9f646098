use Rattle.std.proofs.Common.{refl}
use Rattle.moka_laws.proofs.worked_turns.a_compute_after_a_while.Goals as goal

pub returns-clause-leaves_live : goal.returns-clause-leaves_live
returns-clause-leaves_live c live = refl
