use Rattle.moka_laws.proofs.Names.{map-none, map-none-if}
use Rattle.moka_laws.proofs.turn_laws.unknown_names_are_refused.Goals as goal

pub returns-clause-finish : goal.returns-clause-finish
returns-clause-finish g c settings steps name outcome at = map-none-if _ _ _

pub returns-clause-abandon : goal.returns-clause-abandon
returns-clause-abandon g c settings steps name = map-none _ _

pub returns-clause-collect : goal.returns-clause-collect
returns-clause-collect g c settings steps name = map-none _ _

pub returns-clause-leave : goal.returns-clause-leave
returns-clause-leave g c settings steps name = map-none _ _
