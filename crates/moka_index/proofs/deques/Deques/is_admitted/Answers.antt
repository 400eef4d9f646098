use Rattle.std.proofs.Common.{ap, ◌∙◌}
use Rattle.moka_index.specs.Nodes.{node_at}
use Rattle.moka_index.proofs.DequeLemmas.{stands-within}
use Rattle.moka_index.proofs.deques.Deques.is_admitted.Goals as goal

pub read-requires : goal.read-requires
read-requires c = rw c.deref.ensures.value (stands-within c.args.self.now.nodes.items _ _ c.args.number c.args.self.now.ringed c.requires)

pub returns-clause-admitted : goal.returns-clause-admitted
returns-clause-admitted c = λ q.
    ap (λ n. n.is_admitted) (c.read.ensures ∙ ap (λ ns. node_at ns c.args.number) c.deref.ensures.value) ∙ c.args.self.now.ringed.first.flagged c.args.number q

pub returns-clause-waiting : goal.returns-clause-waiting
returns-clause-waiting c = λ q.
    ap (λ n. n.is_admitted) (c.read.ensures ∙ ap (λ ns. node_at ns c.args.number) c.deref.ensures.value) ∙ c.args.self.now.ringed.second.flagged c.args.number q
