use Rattle.std.proofs.Common.{◌∙◌, ap}
use Rattle.moka_index.specs.Nodes.{row_of, next_of}
use Rattle.moka_index.proofs.LinkLemmas.{queue-first, end-below}
use Rattle.moka_index.proofs.deques.Deques.first.Goals as goal

pub first-requires : goal.first-requires
first-requires c = rw c.end.ensures (end-below c.args.queue)

pub returns : goal.returns
returns c =
    c.first.ensures ∙ ap (λ ns. row_of (next_of ns c.end.result)) c.deref.ensures.value ∙ ap (λ e. row_of (next_of c.args.self.now.nodes.items e)) c.end.ensures
    ∙ queue-first c.args.self.now c.args.queue
