use Rattle.std.proofs.Common.{rules}
use Rattle.moka_laws.specs.WorkedExpiry.{by_moments}
use Rattle.moka_laws.proofs.worked_expiry.closures_are_told_the_moments.Goals as goal

pub lives-requires : goal.lives-requires
lives-requires c = (
  by_moments,
  (
    (λ key value at. tt, λ key value at life h. search rules),
    (λ key value at rest written. tt, λ key value at rest written life h. search rules),
    (λ key value at rest. tt, λ key value at rest life h. search rules),
  ),
)

pub returns : goal.returns
returns c = c.lives.ensures by_moments (
  (λ key value at. tt, λ key value at life h. search rules),
  (λ key value at rest written. tt, λ key value at rest written life h. search rules),
  (λ key value at rest. tt, λ key value at rest life h. search rules),
)
