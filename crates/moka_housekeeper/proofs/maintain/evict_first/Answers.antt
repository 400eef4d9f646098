use Rattle.std.proofs.Common.{◌≡◌, ◌-◌, ◌+◌, suc, arith, subst, ◌∙◌}
use Rattle.moka_housekeeper.proofs.Maintaining.{EvictsFirst, evicts-on}
use Rattle.moka_housekeeper.proofs.maintain.evict_first.Goals as goal

pub evict_first-requires : goal.evict_first-requires
evict_first-requires g c = omega (arith, c.loop-test.true, c.loop.invariant.evicts.enough)

pub loop-preserved : goal.loop-preserved
loop-preserved g c =
    let one_more : c.args.count - c.loop.counter ≡ suc (c.args.count - (c.loop.counter + 1)) = omega (arith, c.loop-test.true) in
    let evicted = c.evict_first.ensures.evicted in
    record {
      within = omega (arith, c.loop-test.true);
      may_hide = c.evict_first.ensures.may_hide ∙ c.loop.invariant.may_hide;
      room = omega arith;
      evicts = evicts-on c.args.count c.args.table.now c.loop.table (c.args.count - (c.loop.counter + 1)) (subst (EvictsFirst c.args.count c.args.table.now c.loop.table) one_more c.loop.invariant.evicts)
          evicted.0 c.evict_first.new.self evicted.1;
    }
