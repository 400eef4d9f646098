use Rattle.moka_c.proofs.Opened.{on_open}
use Rattle.moka_c.proofs.number_cache.moka_c_numbers_run_pending_tasks.Goals as goal

pub returns-clause-stands : goal.returns-clause-stands
returns-clause-stands c = on_open _ _ _ _ _ _ c.in-Some.ensures.taken c.deref_mut.ensures.value c.put.ensures c.run_pending_tasks.ensures.stands

pub returns-clause-all_live : goal.returns-clause-all_live
returns-clause-all_live c = on_open _ _ _ _ _ _ c.in-Some.ensures.taken c.deref_mut.ensures.value c.put.ensures c.run_pending_tasks.ensures.all_live

pub returns-clause-count : goal.returns-clause-count
returns-clause-count c = on_open _ _ _ _ _ _ c.in-Some.ensures.taken c.deref_mut.ensures.value c.put.ensures c.run_pending_tasks.ensures.count
