use Rattle.moka_index.proofs.IndexLemmas.{number-within}
use Rattle.moka_index.proofs.row_index.RowIndex.next_in_chain.Goals as goal

pub next_in_chain-requires : goal.next_in_chain-requires
next_in_chain-requires c = number-within c.args.self.now.orders c.args.number c.requires
