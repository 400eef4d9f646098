use Rattle.std.specs.Option.{option_or}
use Rattle.std.proofs.Common.{ap, is_some}
use Rattle.moka_policy.specs.Building.{flush_refused_of}
use Rattle.moka_sync.proofs.worked_builder.lifetimes_are_checked_first.Goals as goal

pub returns-clause-lifetimes : goal.returns-clause-lifetimes
returns-clause-lifetimes g c builder cause long = ap (λ found. option_or found (flush_refused_of builder.flush_limit (is_some builder.weigher))) long

pub returns-clause-limit : goal.returns-clause-limit
returns-clause-limit g c builder short = ap (λ found. option_or found (flush_refused_of builder.flush_limit (is_some builder.weigher))) short
