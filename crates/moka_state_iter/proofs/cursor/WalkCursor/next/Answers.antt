use Rattle.std.proofs.Common.{option_map}
use Rattle.std.specs.Arc.{arc_value}
use Rattle.moka_iter.specs.Cursors.{with_key}
use Rattle.moka_state_iter.proofs.Asked.{walks-to, hands-out, kept-shown, cause-shown}
use Rattle.moka_state_iter.proofs.cursor.WalkCursor.next.Goals as goal

pub returns-clause-step : goal.returns-clause-step
returns-clause-step g c = rw (← c.self.view_is) (walks-to _ _ _ _ _ _ _ _ _ (option_map (with_key arc_value) c.next.result) c.next.ensures.step)

pub returns-clause-nearer : goal.returns-clause-nearer
returns-clause-nearer g c = rw (← c.self.view_is) c.next.ensures.nearer

pub returns-clause-kept : goal.returns-clause-kept
returns-clause-kept g c = kept-shown arc_value g.C.CacheTypes.keeps c.next.result (hands-out _ _ _ _ _ _ _ _ _ (option_map (with_key arc_value) c.next.result) c.next.ensures.step).0

pub returns-clause-cause : goal.returns-clause-cause
returns-clause-cause g c = cause-shown arc_value c.next.result (hands-out _ _ _ _ _ _ _ _ _ (option_map (with_key arc_value) c.next.result) c.next.ensures.step).1
