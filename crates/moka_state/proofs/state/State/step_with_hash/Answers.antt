use Rattle.moka_state.proofs.TurnSteps.{begin-keeps, compute-keeps, finish-keeps, abandon-keeps, collect-keeps, leave-keeps}
use Rattle.moka_state.proofs.state.State.step_with_hash.Goals as goal

pub returns-in-Invalidate-clause-stands : goal.returns-in-Invalidate-clause-stands
returns-in-Invalidate-clause-stands g c given steps stands = rw c.in-Invalidate.is (rw c.deref-in-Invalidate.ensures at (c.invalidate_with_hash.ensures.stands given steps stands))

pub returns-in-RunPendingTasks-clause-stands : goal.returns-in-RunPendingTasks-clause-stands
returns-in-RunPendingTasks-clause-stands g c given steps stands = rw c.in-RunPendingTasks.is (c.run_pending_tasks.ensures.stands given steps stands)

pub returns-in-RunPendingTasksUpTo-clause-stands : goal.returns-in-RunPendingTasksUpTo-clause-stands
returns-in-RunPendingTasksUpTo-clause-stands g c given steps stands = rw c.in-RunPendingTasksUpTo.is (c.run_pending_tasks_up_to.ensures.stands given steps stands)

pub returns-in-TakeNotice-clause-stands : goal.returns-in-TakeNotice-clause-stands
returns-in-TakeNotice-clause-stands g c given steps stands = rw c.in-TakeNotice.is (c.take_notice.ensures.stands given steps stands)

pub returns-in-InvalidateAll-clause-stands : goal.returns-in-InvalidateAll-clause-stands
returns-in-InvalidateAll-clause-stands g c given steps stands = rw c.in-InvalidateAll.is (c.invalidate_all.ensures.stands given steps stands)

pub returns-in-Begin-clause-kept : goal.returns-in-Begin-clause-kept
returns-in-Begin-clause-kept g c = rw c.in-Begin.is (begin-keeps g.C.CacheTypes.keeps c.in-Begin.key c.in-Begin.kind c.in-Begin.replace c.in-Begin.now c.step_begin.result c.step_begin.ensures.kept)

pub returns-in-BeginCompute-clause-kept : goal.returns-in-BeginCompute-clause-kept
returns-in-BeginCompute-clause-kept g c = rw c.in-BeginCompute.is (compute-keeps g.C.CacheTypes.keeps c.in-BeginCompute.key c.in-BeginCompute.keep c.in-BeginCompute.now c.step_begin_compute.result c.step_begin_compute.ensures.kept)

pub returns-in-Finish-clause-kept : goal.returns-in-Finish-clause-kept
returns-in-Finish-clause-kept g c = rw c.in-Finish.is (finish-keeps g.C.CacheTypes.keeps c.in-Finish.name c.in-Finish.outcome c.in-Finish.now c.step_finish.result c.step_finish.ensures.no_notice)

pub returns-in-Abandon-clause-kept : goal.returns-in-Abandon-clause-kept
returns-in-Abandon-clause-kept g c = rw c.in-Abandon.is (abandon-keeps g.C.CacheTypes.keeps c.in-Abandon.name c.step_abandon.result c.step_abandon.ensures.no_notice)

pub returns-in-Collect-clause-kept : goal.returns-in-Collect-clause-kept
returns-in-Collect-clause-kept g c = rw c.in-Collect.is (collect-keeps g.C.CacheTypes.keeps c.in-Collect.name c.step_collect.result c.step_collect.ensures.no_notice)

pub returns-in-Leave-clause-kept : goal.returns-in-Leave-clause-kept
returns-in-Leave-clause-kept g c = rw c.in-Leave.is (leave-keeps g.C.CacheTypes.keeps c.in-Leave.name c.step_leave.result c.step_leave.ensures.no_notice)
