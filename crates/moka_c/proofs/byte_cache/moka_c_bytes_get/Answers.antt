use Rattle.moka_c.proofs.Opened.{on_open}
use Rattle.moka_c.proofs.byte_cache.moka_c_bytes_get.Goals as goal

pub returns-clause-ends : goal.returns-clause-ends
returns-clause-ends c = λ not_two. on_open _ _ _ _ _ _ c.in-Some.ensures.taken c.deref_mut.ensures.value c.put.ensures (c.get-number.ensures.ends not_two)
