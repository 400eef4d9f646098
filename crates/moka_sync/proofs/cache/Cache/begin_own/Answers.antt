use Rattle.moka_sync.proofs.cache.Cache.begin_own.Goals as goal

-- the lookup has found nothing, and changed nothing
pub begin_missed-begun-requires-clause-missed : goal.begin_missed-begun-requires-clause-missed
begin_missed-begun-requires-clause-missed g c =
    let looks = rw c.in-Ok-None.field-0-is at c.in-Ok-None.ensures.step in
    (looks.0, λ settings steps stands. rw (c.in-Ok-clone.ensures.cases, c.in-Ok.ensures.ok) ((looks.1.reply settings steps (rw looks.1.stands at stands)).1))
