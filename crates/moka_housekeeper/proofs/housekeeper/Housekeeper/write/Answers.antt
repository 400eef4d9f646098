use Rattle.moka_housekeeper.proofs.ByPlan.{writes-by}
use Rattle.moka_housekeeper.proofs.housekeeper.Housekeeper.write.Goals as goal

pub returns : goal.returns
returns g c dated =
    writes-by g.K.PartialEq.eq _ c.args.self.now.lives (g.F.FrequencySource.count c.args.self.now.source) c.args.self.now.max_capacity c.args.flush_limit
    c.args.plan c.args.new c.args.table.now c.slot_of-slot.new.table c.write.new.self c.slot_of-slot.result c.write.result
    (rw c.policy.ensures at (c.slot_of-slot.ensures.slot dated)) c.write.ensures.writes
