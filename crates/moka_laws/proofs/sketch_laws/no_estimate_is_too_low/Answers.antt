use Rattle.moka_laws.proofs.Sketches.{estimate_after-at_least, estimate_after-counts, estimate_after-alone}
use Rattle.moka_laws.proofs.sketch_laws.no_estimate_is_too_low.Goals as goal

pub returns-clause-at_least : goal.returns-clause-at_least
returns-clause-at_least g c earlier since hash whole few = estimate_after-at_least g.row.BITS hash earlier since whole few

pub returns-clause-counted : goal.returns-clause-counted
returns-clause-counted g c notes hash few = estimate_after-counts g.row.BITS hash notes few

pub returns-clause-alone : goal.returns-clause-alone
returns-clause-alone g c hash count few = estimate_after-alone g.row.BITS hash count few
