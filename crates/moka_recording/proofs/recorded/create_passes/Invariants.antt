use Rattle.std.proofs.Common.{◌≡◌, ◌+◌, [], None}
use Rattle.moka_recording.specs.History.{recorder}
use Rattle.moka_recording.specs.Receipts.{fresh_passes}
use Rattle.moka_recording.proofs.recorded.create_passes.Given as goal

abbrev pub invariant-loop-number : goal.invariant-loop-number
invariant-loop-number g l = (l.all.parts + l.number ≡ l.count) × (l.all.amount ≡ 0) × (l.token.table_id ≡ g.L.Naming.table) × (l.token.me ≡ (recorder None [] [] None, [])) × (l.passes.items ≡ fresh_passes l.number)
