use Rattle.std.proofs.Common.{ap, ◌∙◌, arith}
use Rattle.moka_index.specs.Nodes.{row_of}
use Rattle.moka_index.proofs.DequeLemmas.{moved-last}
use Rattle.moka_index.proofs.deques.Deques.move_last.Goals as goal

pub relink-requires-clause-at_within : goal.relink-requires-clause-at_within
relink-requires-clause-at_within c = c.args.self.now.ringed.first.within c.args.number c.requires

pub relink-requires-clause-within : goal.relink-requires-clause-within
relink-requires-clause-within c = let within = c.args.self.now.ringed.first.within c.args.number c.requires in omega arith

pub relink-requires-clause-mutual : goal.relink-requires-clause-mutual
relink-requires-clause-mutual c = c.args.self.now.ringed.neighbours

pub relink-requires-clause-other : goal.relink-requires-clause-other
relink-requires-clause-other c = λ q. let above = c.args.self.now.ringed.first.above c.args.number c.requires in omega arith

pub invariant_of-self : goal.invariant_of-self
invariant_of-self c = record {
  ringed = (moved-last c.args.self.now.nodes.items c.relink.new.nodes.items c.args.number _ _ c.args.self.now.ringed c.requires c.relink.ensures).ringed;
}

pub returns : goal.returns
returns c =
    let m = moved-last c.args.self.now.nodes.items c.relink.new.nodes.items c.args.number _ _ c.args.self.now.ringed c.requires c.relink.ensures in
    let r = c.relink.ensures in
    record {
      admitted = m.admitted;
      waiting = m.waiting;
      preserves = record {
        same = λ k. ap row_of (r.joined.rest.same k ∙ r.left.rest.same k);
        hash = λ k. r.joined.rest.hash k ∙ r.left.rest.hash k;
        places = r.joined.rest.len ∙ r.left.rest.len;
      };
    }
