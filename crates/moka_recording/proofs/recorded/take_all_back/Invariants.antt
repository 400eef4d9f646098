use Rattle.std.proofs.Common.{◌≡◌, length, true, sum_by}
use Rattle.moka_recording.specs.History.{Each}
use Rattle.moka_recording.specs.Receipts.{Stand, PlacesRise}
use Rattle.moka_recording.proofs.recorded.take_all_back.Given as goal

-- what the receipts of the passes that were taken back say stands in the history, and they are counted
abbrev pub invariant-loop-pass : goal.invariant-loop-pass
invariant-loop-pass g l =
    (l.token.table_id ≡ g.L.Naming.table) × (l.token.me.0.is_recorder ≡ true) × (l.token.me.0.all ≡ l.entries.items)
    × (l.rest.parts ≡ length l.yielded) × (l.rest.amount ≡ sum_by (λ p. length p.receipts) l.yielded)
    × Each (Stand g.M.Machine.one_step g.M.Machine.one_reply l.entries.items) l.yielded
    × Each (λ p. PlacesRise p.receipts) l.yielded
