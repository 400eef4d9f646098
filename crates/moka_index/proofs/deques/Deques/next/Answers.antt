use Rattle.std.proofs.Common.{ap, ◌∙◌, arith}
use Rattle.moka_index.specs.Nodes.{node_at, row_of}
use Rattle.moka_index.proofs.DequeLemmas.{stands-within, ordered-behind}
use Rattle.moka_index.proofs.deques.Deques.next.Goals as goal

pub read-requires : goal.read-requires
read-requires c = rw c.deref.ensures.value (stands-within c.args.self.now.nodes.items _ _ c.args.number c.args.self.now.ringed c.requires)

pub returns-clause-admitted : goal.returns-clause-admitted
returns-clause-admitted c = λ q.
    c.row.ensures ∙ ap (λ n. row_of n.next) (c.read.ensures ∙ ap (λ ns. node_at ns c.args.number) c.deref.ensures.value)
    ∙ ordered-behind c.args.self.now.nodes.items 0 c.args.number _ _ (omega arith) c.args.self.now.ringed.first q

pub returns-clause-waiting : goal.returns-clause-waiting
returns-clause-waiting c = λ q.
    c.row.ensures ∙ ap (λ n. row_of n.next) (c.read.ensures ∙ ap (λ ns. node_at ns c.args.number) c.deref.ensures.value)
    ∙ ordered-behind c.args.self.now.nodes.items 1 c.args.number _ _ (omega arith) c.args.self.now.ringed.second q
