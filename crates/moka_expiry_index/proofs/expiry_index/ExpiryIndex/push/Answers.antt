use Rattle.std.proofs.Common.{vec_len, slice_index, arith}
use Rattle.moka_expiry_index.specs.MinTree.{leaf}
use Rattle.moka_expiry_index.proofs.SlotLemmas.{not-listed}
use Rattle.moka_expiry_index.proofs.expiry_index.ExpiryIndex.push.Goals as goal
use Rattle.moka_expiry_index.proofs.expiry_index.ExpiryIndex.push.Goals.{then-number-eq0-via-then-number-eq0, then-number-eq0-via-else-number-eq0+then-number-len}

pub returns-then-number-eq0-clause-room : goal.returns-then-number-eq0-clause-room
returns-then-number-eq0-clause-room c some known absent room = elim c.then-number-eq0.branch [
  | then-number-eq0-via-then-number-eq0 w ↦ absurd (omega (arith, some, w.if-number-eq0.true))
  | then-number-eq0-via-else-number-eq0+then-number-len w ↦ absurd (omega (arith, known, w.if-number-len.true, w.len.ensures))
]

pub returns-in-Some-clause-room : goal.returns-in-Some-clause-room
returns-in-Some-clause-room c some known absent room =
    let at = c.in-Some.ensures in
    absurd (not-listed (slice_index c.args.self.now.numbers.items) (leaf c.args.self.now.nodes.items c.args.self.now.size) c.args.number (vec_len c.args.self.now.numbers) absent at.some _ at.within at.here)
