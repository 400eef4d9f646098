use Rattle.moka_slab.proofs.TiedLemmas.{numbers-differ, few-rows}
use Rattle.moka_slab.proofs.slab_rows.SlabRowsRowStore.numbers_differ.Goals as goal

pub returns-clause-apart : goal.returns-clause-apart
returns-clause-apart g c = numbers-differ c.args.self.now.rows c.args.self.now.links

pub returns-clause-few : goal.returns-clause-few
returns-clause-few g c = few-rows c.args.self.now.rows c.args.self.now.links c.args.self.now.tied
