use Rattle.std.specs.Arc.{arc_value}
use Rattle.moka_recorded.proofs.Endings.{finished, not_finished, joined-keeps, made-keeps}
use Rattle.moka_recorded.proofs.get_with.get_with.Goals as goal

pub returns-in-Ok-Value-clause-kept : goal.returns-in-Ok-Value-clause-kept
returns-in-Ok-Value-clause-kept g c = joined-keeps g.V.Clone.is_clone g.C.CacheTypes.keeps (arc_value c.args.key) c.args.now c.args.pass.now c.wait_for.new.caller _ c.in-Ok-Value.field-0 c.in-Ok-Value.field-0-is c.in-Ok-Value.ensures.done

pub returns-in-Ok-Turn-clause-kept : goal.returns-in-Ok-Turn-clause-kept
returns-in-Ok-Turn-clause-kept g c = made-keeps g.V.Clone.is_clone g.C.CacheTypes.keeps (arc_value c.args.key) c.args.now g.met.C.CacheTypes.copies_keep _ c.init-value.result c.wait_for.new.caller c.finish.new.pass c.finish.result (c.requires.keeps _ c.init-value.ensures) c.finish.ensures.done

pub returns-in-Ok-Turn-clause-done : goal.returns-in-Ok-Turn-clause-done
returns-in-Ok-Turn-clause-done g c = finished g.V.Clone.is_clone g.C.CacheTypes.keeps (arc_value c.args.key) c.args.now _ c.args.pass.now c.wait_for.new.caller c.finish.new.pass c.in-Ok-Turn.turn c.init-value.result c.finish.result c.in-Ok-Turn.field-0 c.in-Ok-Turn.field-0-is c.in-Ok-Turn.ensures.done c.init-value.ensures c.finish.ensures.done

pub returns-in-Ok-Turn-clause-refused : goal.returns-in-Ok-Turn-clause-refused
returns-in-Ok-Turn-clause-refused g c = not_finished g.V.Clone.is_clone g.C.CacheTypes.keeps (arc_value c.args.key) c.args.now _ c.args.pass.now c.wait_for.new.caller c.finish.new.pass c.in-Ok-Turn.turn c.init-value.result c.finish.result c.in-Ok-Turn.field-0 c.in-Ok-Turn.field-0-is c.in-Ok-Turn.ensures.done c.init-value.ensures c.finish.ensures.refused
