use Rattle.moka_laws.proofs.Departures.{nothing_leaves_for_size, removals_at-without}
use Rattle.moka_laws.proofs.size_laws.without_a_capacity_nothing_leaves_for_size.Goals as goal

pub returns-clause-never : goal.returns-clause-never
returns-clause-never g c settings h e = nothing_leaves_for_size g.K.PartialEq.eq settings h e

pub returns-clause-just_the_dead : goal.returns-clause-just_the_dead
returns-clause-just_the_dead g c settings h at e = removals_at-without g.K.PartialEq.eq settings at h e
