use Rattle.std.proofs.Common.{◌-◌, length}
use Rattle.moka_index.specs.RowIndex.{chain_of}
use Rattle.moka_slab.proofs.FindLemmas.{Sought}
use Rattle.moka_slab.proofs.lookup.find_row.Given as goal

abbrev pub invariant-loop-at : goal.invariant-loop-at
invariant-loop-at g l = Sought l.fn.rows.store.now.rows l.fn.rows.store.now.links l.fn.rows.store.now.tied g.K.PartialEq.eq l.fn.key l.fn.hash l.at l.reads

abbrev pub decreases-loop-at : goal.decreases-loop-at
decreases-loop-at g l = length (chain_of l.fn.rows.store.now.links l.fn.hash) - l.reads
