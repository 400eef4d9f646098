use Rattle.std.proofs.Common.{[]}
use Rattle.moka_guarded.proofs.guarded.GuardedState.open.Goals as goal

-- A state that defers drops is the state as it was opened, which stands for no steps.
pub invariant_of-result : goal.invariant_of-result
invariant_of-result g c = rw c.defer_drops.ensures (record { settings = _; steps = []; stands = c.in_ok-state.ensures.empty; keep = (tt, tt) })

pub returns-clause-empty : goal.returns-clause-empty
returns-clause-empty g c = rw c.defer_drops.ensures c.in_ok-state.ensures.empty
