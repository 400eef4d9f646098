use Rattle.std.proofs.Common.{◌≡◌, List, ◌++◌, map, Ok, None}
use Rattle.std.specs.Arc.{arc_value}
use Rattle.std.specs.List.{AllByRecursion}
use Rattle.std.specs.VecDeque.{deque_len}
use Rattle.moka_iter.proofs.position.next_of_segment.Given as goal

-- the keys so far were passed over: none of them is live
abbrev pub invariant-loop-key : goal.invariant-loop-key
invariant-loop-key g l = (passed : List _) × (map arc_value l.fn.pending.items ≡ passed ++ map arc_value l.pending.items) × AllByRecursion (λ k. g.S.Segments.finds l.segments l.segment k (Ok None)) passed

abbrev pub decreases-loop-key : goal.decreases-loop-key
decreases-loop-key g l = deque_len l.pending
