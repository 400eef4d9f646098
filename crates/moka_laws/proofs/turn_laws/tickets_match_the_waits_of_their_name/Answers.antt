use Rattle.std.proofs.Common.{arith}
use Rattle.moka_laws.proofs.Tickets.{named_match}
use Rattle.moka_laws.proofs.turn_laws.tickets_match_the_waits_of_their_name.Goals as goal

pub returns-clause-unspent : goal.returns-clause-unspent
returns-clause-unspent g c settings made name are = named_match g.K.PartialEq.eq settings g.met.K.Eq.laws name made are

pub returns-clause-spent : goal.returns-clause-spent
returns-clause-spent g c settings made name are = let all = named_match g.K.PartialEq.eq settings g.met.K.Eq.laws name made are in omega (arith, all)
