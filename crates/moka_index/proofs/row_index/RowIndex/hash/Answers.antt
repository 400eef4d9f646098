use Rattle.moka_index.proofs.IndexLemmas.{number-within}
use Rattle.moka_index.proofs.row_index.RowIndex.hash.Goals as goal

pub hash-requires : goal.hash-requires
hash-requires c = number-within c.args.self.now.orders c.args.number c.requires
