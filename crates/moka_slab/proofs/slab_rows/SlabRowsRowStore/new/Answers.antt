use Rattle.std.specs.Prelude.{vec_capacity}
use Rattle.moka_slab.proofs.LivedLemmas.{lived-none}
use Rattle.moka_slab.proofs.slab_rows.SlabRowsRowStore.new.Goals as goal

pub invariant_of-result-clause-lived : goal.invariant_of-result-clause-lived
invariant_of-result-clause-lived g c = lived-none c.new.result c.new-2.result.items (vec_capacity c.new-2.result) c.new.ensures.empty
