use Rattle.moka_c.proofs.Opened.{on_open}
use Rattle.moka_c.proofs.byte_cache.moka_c_bytes_invalidate_all.Goals as goal

pub returns-clause-stands : goal.returns-clause-stands
returns-clause-stands c = on_open _ _ _ _ _ _ c.in-Some.ensures.taken c.deref_mut.ensures.value c.put.ensures c.invalidate_all.ensures.stands
