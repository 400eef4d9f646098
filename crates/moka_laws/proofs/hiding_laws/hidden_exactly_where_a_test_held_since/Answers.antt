use Rattle.moka_laws.proofs.Hiding.{hidden-exactly}
use Rattle.moka_laws.proofs.hiding_laws.hidden_exactly_where_a_test_held_since.Goals as goal

pub returns-clause-exactly : goal.returns-clause-exactly
returns-clause-exactly g c settings h k w last stands = hidden-exactly g.K.PartialEq.eq settings k h w last stands
