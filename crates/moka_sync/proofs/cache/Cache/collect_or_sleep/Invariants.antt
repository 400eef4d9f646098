use Rattle.std.specs.Prelude.{◌≡◌}
use Rattle.moka_turns.specs.Handles.{ticket_name}
use Rattle.moka_sync.proofs.cache.Cache.collect_or_sleep.Given as goal

-- the ticket is still for the turn that it was for
abbrev pub invariant-loop : goal.invariant-loop
invariant-loop g l = ticket_name l.ticket ≡ ticket_name l.initial.ticket
