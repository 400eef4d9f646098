use Rattle.moka_c.proofs.Opened.{if_open}
use Rattle.moka_c.proofs.byte_cache.moka_c_bytes_entry_count.Goals as goal

pub returns-clause-stands : goal.returns-clause-stands
returns-clause-stands c = if_open _ _ _ _ c.in-Some.ensures.taken c.deref.ensures c.entry_count.ensures.stands

pub returns-clause-bounded : goal.returns-clause-bounded
returns-clause-bounded c = if_open _ _ _ _ c.in-Some.ensures.taken c.deref.ensures c.entry_count.ensures.bounded
