use Rattle.std.proofs.Common.{arith}
use Rattle.moka_index.proofs.DequeLemmas.{ringed-stays}
use Rattle.moka_index.proofs.deques.Deques.set_same.Goals as goal

pub invariant_of-self : goal.invariant_of-self
invariant_of-self c =
    let s = c.set_same.ensures in
    let moved = ringed-stays c.args.self.now.nodes.items c.set_same.new.nodes.items _ _ s.next s.prev s.order (omega (arith, s.len)) (rw s.len c.args.self.now.ringed.few) c.args.self.now.ringed in
    record { ringed = moved.ringed }

pub returns-clause-preserves : goal.returns-clause-preserves
returns-clause-preserves c =
    let s = c.set_same.ensures in
    let moved = ringed-stays c.args.self.now.nodes.items c.set_same.new.nodes.items _ _ s.next s.prev s.order (omega (arith, s.len)) (rw s.len c.args.self.now.ringed.few) c.args.self.now.ringed in
    record { admitted = moved.admitted; waiting = moved.waiting; places = s.len }
