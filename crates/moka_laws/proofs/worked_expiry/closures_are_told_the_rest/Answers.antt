use Rattle.std.proofs.Common.{rules}
use Rattle.moka_laws.specs.WorkedExpiry.{by_rest}
use Rattle.moka_laws.proofs.worked_expiry.closures_are_told_the_rest.Goals as goal

pub lives-requires : goal.lives-requires
lives-requires c = (
  by_rest,
  (
    (λ key value at. tt, λ key value at life h. search rules),
    (λ key value at rest written. tt, λ key value at rest written life h. search rules),
    (λ key value at rest. tt, λ key value at rest life h. search rules),
  ),
)

pub returns : goal.returns
returns c = rw c.from_nanos.ensures at (c.lives.ensures by_rest (
  (λ key value at. tt, λ key value at life h. search rules),
  (λ key value at rest written. tt, λ key value at rest written life h. search rules),
  (λ key value at rest. tt, λ key value at rest life h. search rules),
))
