use Rattle.moka_c.proofs.Opened.{if_open}
use Rattle.moka_c.proofs.byte_cache.moka_c_bytes_weighted_size.Goals as goal

pub returns-clause-stands : goal.returns-clause-stands
returns-clause-stands c = if_open _ _ _ _ c.in-Some.ensures.taken c.deref.ensures c.weighted_size.ensures.stands
