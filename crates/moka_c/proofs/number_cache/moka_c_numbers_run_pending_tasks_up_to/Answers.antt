use Rattle.moka_c.proofs.Opened.{if_open, on_open}
use Rattle.moka_c.proofs.number_cache.moka_c_numbers_run_pending_tasks_up_to.Goals as goal

pub returns-clause-reply : goal.returns-clause-reply
returns-clause-reply c = if_open _ _ _ _ c.in-Some.ensures.taken c.deref_mut.ensures.value c.run_pending_tasks_up_to.ensures.reply

pub returns-clause-stands : goal.returns-clause-stands
returns-clause-stands c = on_open _ _ _ _ _ _ c.in-Some.ensures.taken c.deref_mut.ensures.value c.put.ensures c.run_pending_tasks_up_to.ensures.stands

pub returns-clause-whole : goal.returns-clause-whole
returns-clause-whole c = λ whole. on_open _ _ _ _ _ _ c.in-Some.ensures.taken c.deref_mut.ensures.value c.put.ensures (c.run_pending_tasks_up_to.ensures.whole whole)

pub returns-clause-count : goal.returns-clause-count
returns-clause-count c = λ whole. on_open _ _ _ _ _ _ c.in-Some.ensures.taken c.deref_mut.ensures.value c.put.ensures (c.run_pending_tasks_up_to.ensures.count whole)
