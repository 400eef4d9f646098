use Rattle.std.specs.Prelude.{ℕ}
use Rattle.moka_single_flight.specs.Rounds.{Collects, CollectsRefused}
use Rattle.moka_single_flight.proofs.wait.collect_all.Given as goal

-- what collects return from here on is what they return from the first on; and the caller may be asked
abbrev pub invariant-loop : goal.invariant-loop
invariant-loop g l =
    ((n : ℕ) (b : _) (u : _) → Collects (g.P.Participant.collected l.at) n l.caller l.ticket b u → (m : ℕ) × Collects (g.P.Participant.collected l.at) m l.initial.caller l.initial.ticket b u)
    × ((n : ℕ) (r : _) (u : _) → CollectsRefused (g.P.Participant.collected l.at) (g.P.Participant.collect_refused l.at) n l.caller l.ticket r u → (m : ℕ) × CollectsRefused (g.P.Participant.collected l.at) (g.P.Participant.collect_refused l.at) m l.initial.caller l.initial.ticket r u)
    × g.P.Participant.ready l.caller
