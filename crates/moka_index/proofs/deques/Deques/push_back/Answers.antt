use Rattle.std.proofs.Common.{ap, ◌∙◌, arith}
use Rattle.moka_index.specs.Nodes.{row_of}
use Rattle.moka_index.proofs.LinkLemmas.{end-below}
use Rattle.moka_index.proofs.DequeLemmas.{joined-admitted, joined-waiting, few-admitted, few-waiting, mutual-same}
use Rattle.moka_index.proofs.deques.Deques.push_back.Goals as goal

pub link_before-requires-clause-mutual : goal.link_before-requires-clause-mutual
link_before-requires-clause-mutual c =
    mutual-same c.args.self.now.nodes.items c.set_order.new.nodes.items c.set_order.ensures.next c.set_order.ensures.prev c.args.self.now.ringed.neighbours

pub link_before-requires-clause-alone : goal.link_before-requires-clause-alone
link_before-requires-clause-alone c = c.set_order.ensures.next c.args.number ∙ c.args.self.now.ringed.alone c.args.number c.requires.above c.requires.absent.0 c.requires.absent.1

pub link_before-requires-clause-other : goal.link_before-requires-clause-other
link_before-requires-clause-other c = λ is. let below = end-below c.args.queue in omega (arith, c.requires.above, c.end.ensures, below, is)

pub overflow_add-self : goal.overflow_add-self
overflow_add-self c = let few = few-admitted c.args.self.now.nodes.items c.args.self.now.admitted_len c.args.self.now.waiting_len c.args.self.now.ringed in omega arith

pub invariant_of-self : goal.invariant_of-self
invariant_of-self c =
    let moved = joined-admitted c.args.self.now.nodes.items c.set_order.new.nodes.items c.link_before.new.nodes.items c.args.number _ _
    c.args.self.now.ringed c.requires.above c.requires.within c.requires.absent.0 c.requires.absent.1
    (rw (c.is_of_admitted.ensures, c.in-Admitted.is) at c.set_order.ensures) (rw (c.end.ensures, c.in-Admitted.is) at c.link_before.ensures) in
    record { ringed = moved.ringed }

pub overflow_add-self-in-Waiting : goal.overflow_add-self-in-Waiting
overflow_add-self-in-Waiting c = let few = few-waiting c.args.self.now.nodes.items c.args.self.now.admitted_len c.args.self.now.waiting_len c.args.self.now.ringed in omega arith

pub invariant_of-self-in-Waiting : goal.invariant_of-self-in-Waiting
invariant_of-self-in-Waiting c =
    let moved = joined-waiting c.args.self.now.nodes.items c.set_order.new.nodes.items c.link_before.new.nodes.items c.args.number _ _
    c.args.self.now.ringed c.requires.above c.requires.within c.requires.absent.0 c.requires.absent.1
    (rw (c.is_of_admitted.ensures, c.in-Waiting.is) at c.set_order.ensures) (rw (c.end.ensures, c.in-Waiting.is) at c.link_before.ensures) in
    record { ringed = moved.ringed }

pub returns-in-Admitted : goal.returns-in-Admitted
returns-in-Admitted c =
    let moved = joined-admitted c.args.self.now.nodes.items c.set_order.new.nodes.items c.link_before.new.nodes.items c.args.number _ _
    c.args.self.now.ringed c.requires.above c.requires.within c.requires.absent.0 c.requires.absent.1
    (rw (c.is_of_admitted.ensures, c.in-Admitted.is) at c.set_order.ensures) (rw (c.end.ensures, c.in-Admitted.is) at c.link_before.ensures) in
    rw c.in-Admitted.is
    (record {
      pushed = moved.admitted;
      other = moved.waiting;
      preserves = record {
        same = λ k. ap row_of (c.link_before.ensures.rest.same k ∙ c.set_order.ensures.same k);
        hash = λ k. c.link_before.ensures.rest.hash k ∙ c.set_order.ensures.hash k;
        places = c.link_before.ensures.rest.len ∙ c.set_order.ensures.len;
      };
    })

pub returns-in-Waiting : goal.returns-in-Waiting
returns-in-Waiting c =
    let moved = joined-waiting c.args.self.now.nodes.items c.set_order.new.nodes.items c.link_before.new.nodes.items c.args.number _ _
    c.args.self.now.ringed c.requires.above c.requires.within c.requires.absent.0 c.requires.absent.1
    (rw (c.is_of_admitted.ensures, c.in-Waiting.is) at c.set_order.ensures) (rw (c.end.ensures, c.in-Waiting.is) at c.link_before.ensures) in
    rw c.in-Waiting.is
    (record {
      pushed = moved.waiting;
      other = moved.admitted;
      preserves = record {
        same = λ k. ap row_of (c.link_before.ensures.rest.same k ∙ c.set_order.ensures.same k);
        hash = λ k. c.link_before.ensures.rest.hash k ∙ c.set_order.ensures.hash k;
        places = c.link_before.ensures.rest.len ∙ c.set_order.ensures.len;
      };
    })
