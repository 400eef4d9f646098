use Rattle.std.proofs.Common.{rules, ◌<◌, length, slice_index, sym}
use Rattle.moka_expiry_index.specs.MinTree.{leaf}
use Rattle.moka_expiry_index.proofs.SlotLemmas.{first-due}
use Rattle.moka_expiry_index.proofs.expiry_index.walk_to_due.Goals as goal

pub returns-then-deadline-now : goal.returns-then-deadline-now
returns-then-deadline-now c =
    let within : c.loop-place.place < length c.args.numbers.now = search rules in
    sym (first-due (slice_index c.args.numbers.now) (leaf c.args.nodes.now c.args.size) c.args.now (length c.args.numbers.now) c.loop-place.place within
    (search rules) (search rules) c.loop-place.invariant)
