use Rattle.moka_sketch.specs.Sketch.{count_in}
use Rattle.std.proofs.Common.{get_or, ap}
use Rattle.moka_laws.proofs.Sketches.{least-same, estimate_after-kept, estimate_after-le}
use Rattle.moka_laws.proofs.sketch_laws.a_sketch_takes_the_least_of_four.Goals as goal

pub returns-clause-kept : goal.returns-clause-kept
returns-clause-kept g c notes hash = estimate_after-kept g.row.BITS hash notes

pub returns-clause-at_most_15 : goal.returns-clause-at_most_15
returns-clause-at_most_15 g c notes hash = estimate_after-le g.row.BITS hash notes

-- they read the same counters
pub returns-clause-shared : goal.returns-clause-shared
returns-clause-shared g c counts a b shared = least-same (count_in g.row.BITS counts.counters a) (count_in g.row.BITS counts.counters b) (λ row in_rows. ap (λ place. get_or counts.counters place 0) (shared row in_rows))
