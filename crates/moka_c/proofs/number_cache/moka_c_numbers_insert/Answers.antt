use Rattle.moka_c.proofs.Opened.{on_open}
use Rattle.moka_c.proofs.number_cache.moka_c_numbers_insert.Goals as goal

pub returns-clause-ends : goal.returns-clause-ends
returns-clause-ends c = on_open _ _ _ _ _ _ c.in-Some.ensures.taken c.deref_mut.ensures.value c.put.ensures c.insert-number.ensures.ends
