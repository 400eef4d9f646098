use Rattle.std.proofs.Common.{ap}
use Rattle.moka_index.specs.Nodes.{row_of}
use Rattle.moka_index.proofs.DequeLemmas.{stands-within, left-admitted, left-waiting, in-admitted, in-waiting}
use Rattle.moka_index.proofs.deques.Deques.unlink.Goals as goal

pub unlink-requires-clause-within : goal.unlink-requires-clause-within
unlink-requires-clause-within c = stands-within c.args.self.now.nodes.items _ _ c.args.number c.args.self.now.ringed c.requires

pub invariant_of-self : goal.invariant_of-self
invariant_of-self c =
    let there = in-admitted _ _ c.args.number c.is_admitted-is_admitted.result c.requires c.is_admitted-is_admitted.ensures.waiting c.if-is_admitted.true in
    record { ringed = (left-admitted c.args.self.now.nodes.items c.unlink.new.nodes.items c.args.number _ _ c.args.self.now.ringed there c.unlink.ensures).ringed }

pub invariant_of-self-else-is_admitted : goal.invariant_of-self-else-is_admitted
invariant_of-self-else-is_admitted c =
    let there = in-waiting _ _ c.args.number c.is_admitted-is_admitted.result c.requires c.is_admitted-is_admitted.ensures.admitted c.if-is_admitted.false in
    record { ringed = (left-waiting c.args.self.now.nodes.items c.unlink.new.nodes.items c.args.number _ _ c.args.self.now.ringed there c.unlink.ensures).ringed }

pub returns-then-is_admitted : goal.returns-then-is_admitted
returns-then-is_admitted c =
    let there = in-admitted _ _ c.args.number c.is_admitted-is_admitted.result c.requires c.is_admitted-is_admitted.ensures.waiting c.if-is_admitted.true in
    let m = left-admitted c.args.self.now.nodes.items c.unlink.new.nodes.items c.args.number _ _ c.args.self.now.ringed there c.unlink.ensures in
    record {
      was_admitted = c.is_admitted-is_admitted.ensures.admitted;
      was_waiting = c.is_admitted-is_admitted.ensures.waiting;
      admitted = m.admitted;
      waiting = m.waiting;
      preserves = record { same = λ k. ap row_of (c.unlink.ensures.rest.same k); hash = c.unlink.ensures.rest.hash; places = c.unlink.ensures.rest.len };
    }

pub returns-else-is_admitted : goal.returns-else-is_admitted
returns-else-is_admitted c =
    let there = in-waiting _ _ c.args.number c.is_admitted-is_admitted.result c.requires c.is_admitted-is_admitted.ensures.admitted c.if-is_admitted.false in
    let m = left-waiting c.args.self.now.nodes.items c.unlink.new.nodes.items c.args.number _ _ c.args.self.now.ringed there c.unlink.ensures in
    record {
      was_admitted = c.is_admitted-is_admitted.ensures.admitted;
      was_waiting = c.is_admitted-is_admitted.ensures.waiting;
      admitted = m.admitted;
      waiting = m.waiting;
      preserves = record { same = λ k. ap row_of (c.unlink.ensures.rest.same k); hash = c.unlink.ensures.rest.hash; places = c.unlink.ensures.rest.len };
    }
