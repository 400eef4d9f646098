use Rattle.std.proofs.Common.{ap}
use Rattle.moka_index.specs.Nodes.{row_of}
use Rattle.moka_index.proofs.DequeLemmas.{ringed-stays}
use Rattle.moka_index.proofs.deques.Deques.reserve.Goals as goal

pub invariant_of-self : goal.invariant_of-self
invariant_of-self c =
    let g = c.grow.ensures.grown in
    let moved = ringed-stays c.args.self.now.nodes.items c.grow.new.nodes.items _ _
    (λ k. ap (λ n. n.next) (g.same k)) (λ k. ap (λ n. n.prev) (g.same k)) (λ k. ap (λ n. n.is_admitted) (g.same k)) g.more g.few c.args.self.now.ringed in
    record { ringed = moved.ringed }

pub returns : goal.returns
returns c =
    let g = c.grow.ensures.grown in
    let moved = ringed-stays c.args.self.now.nodes.items c.grow.new.nodes.items _ _
    (λ k. ap (λ n. n.next) (g.same k)) (λ k. ap (λ n. n.prev) (g.same k)) (λ k. ap (λ n. n.is_admitted) (g.same k)) g.more g.few c.args.self.now.ringed in
    record {
      made = c.grow.ensures.places;
      admitted = moved.admitted;
      waiting = moved.waiting;
      same = λ k. ap (λ n. row_of n.same) (g.same k);
      hash = λ k. ap (λ n. n.hash) (g.same k);
      places = g.more;
    }
