use Rattle.std.proofs.Common.{refl}
use Rattle.rand_core.specs.Stream.{next_u64, fill_bytes}
use Rattle.moka_predicate_ids.proofs.worked_ids.an_id_draws_sixteen_bytes.Goals as goal

pub returns-clause-before : goal.returns-clause-before
unfolding next_u64
returns-clause-before c = refl

pub returns-clause-after : goal.returns-clause-after
unfolding next_u64 fill_bytes
returns-clause-after c = refl

pub returns-clause-twice : goal.returns-clause-twice
unfolding next_u64 fill_bytes
returns-clause-twice c = refl
