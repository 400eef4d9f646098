use Rattle.moka_segmented.proofs.Replies.{hidden-replies, refused-step}
use Rattle.moka_segmented.proofs.segment.Segmented.step_of_all.Goals as goal
use Rattle.std.proofs.Common.{refl}

pub returns-in-InvalidateAll-clause-stands : goal.returns-in-InvalidateAll-clause-stands
returns-in-InvalidateAll-clause-stands g c given calls stand = rw c.in-InvalidateAll.is (c.invalidate_all.ensures.stands given calls stand)

pub returns-in-Ok-clause-reply : goal.returns-in-Ok-clause-reply
returns-in-Ok-clause-reply g c given calls stand =
    rw c.in-InvalidateIf.is (hidden-replies g.row.C-Error.Denot g.K.PartialEq.eq g.V.Clone.is_clone g.V.Clone.is_infallible given calls _ ((c.in-Ok.ensures.accepted given calls stand).0 refl))

pub returns-in-Ok-clause-stands : goal.returns-in-Ok-clause-stands
returns-in-Ok-clause-stands g c given calls stand = rw c.in-InvalidateIf.is (c.in-Ok.ensures.stands given calls stand)

pub returns-in-Err-clause-reply : goal.returns-in-Err-clause-reply
returns-in-Err-clause-reply g c given calls stand =
    refused-step g.K.PartialEq.eq g.V.Clone.is_clone g.V.Clone.is_infallible given calls g.C.CacheTypes.test c.args.step c.in-InvalidateIf.predicate c.in-Err.refused c.in-InvalidateIf.is c.in-Err.ensures.cause
    (λ supports. let ok = (c.in-Err.ensures.accepted given calls stand).1 supports in cc)

pub returns-in-RunPendingTasks-clause-stands : goal.returns-in-RunPendingTasks-clause-stands
returns-in-RunPendingTasks-clause-stands g c given calls stand = rw c.in-RunPendingTasks.is (c.run_pending_tasks.ensures.stands given calls stand)

pub returns-in-RunPendingTasksUpTo-clause-stands : goal.returns-in-RunPendingTasksUpTo-clause-stands
returns-in-RunPendingTasksUpTo-clause-stands g c given calls stand = rw c.in-RunPendingTasksUpTo.is (c.run_pending_tasks_up_to.ensures.stands given calls stand)

pub returns-in-TakeNotice-clause-stands : goal.returns-in-TakeNotice-clause-stands
returns-in-TakeNotice-clause-stands g c given calls stand = rw c.in-TakeNotice.is (c.take_notice.ensures.stands given calls stand)
