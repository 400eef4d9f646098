use Rattle.std.proofs.Common.{◌≡◌, [], filter, slice_index}
use Rattle.moka_expiry_index.specs.MinTree.{leaf}
use Rattle.moka_expiry_index.specs.Slots.{listed, is_due}
use Rattle.moka_expiry_index.proofs.expiry_index.walk_to_due.Given as goal

-- none of the slots that were passed is due
abbrev pub invariant-loop-place : goal.invariant-loop-place
invariant-loop-place l = filter (is_due l.now) (listed (slice_index l.numbers) (leaf l.nodes l.size) l.place) ≡ []
