use Rattle.std.specs.Prelude.{ℕ}
use Rattle.moka_single_flight.specs.Rounds.{Rounds, IsLeft}
use Rattle.moka_single_flight.proofs.wait.wait_for.Given as goal

-- so many waits gave nothing, the others are left, and the caller may be asked
abbrev pub invariant-loop : goal.invariant-loop
invariant-loop g l = (n : ℕ) × IsLeft l.fn.max_retries l.left n × Rounds (g.P.Participant.begun l.at) (g.P.Participant.collected l.at) n l.initial.caller l.caller × g.P.Participant.ready l.caller
