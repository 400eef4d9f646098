use Rattle.std.proofs.Common.{refl}
use Rattle.uuid.proofs.OnLiterals.{uuid_on_literals}
use Rattle.rand_core.specs.Stream.{fill_bytes}
use Rattle.moka_predicate_ids.proofs.worked_ids.ids_of_one_byte.Goals as goal

pub returns-clause-ones : goal.returns-clause-ones
unfolding uuid_on_literals fill_bytes
returns-clause-ones c = refl

pub returns-clause-zeros : goal.returns-clause-zeros
unfolding uuid_on_literals fill_bytes
returns-clause-zeros c = refl

pub returns-clause-others : goal.returns-clause-others
unfolding uuid_on_literals fill_bytes
returns-clause-others c = refl

pub returns-clause-characters : goal.returns-clause-characters
unfolding uuid_on_literals fill_bytes
returns-clause-characters c = refl
