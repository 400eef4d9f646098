use Rattle.std.proofs.Common.{None, refl}
use Rattle.moka_turns.proofs.Begins.{opens}
use Rattle.moka_turns.proofs.table.TurnTable.open.Goals as goal

pub returns-clause-begins : goal.returns-clause-begins
returns-clause-begins g c may_wait hash_of ts respects hashed sound keeps =
    opens g.K.PartialEq.eq g.met.K.Eq.laws g.V.Clone.is_clone hash_of respects ts sound _ _ keeps c.args.key hashed _ _ c.args.number may_wait c.requires.absent c.requires.number _ c.in-Ok.ensures.name
    (c.in-Ok.ensures.opens hash_of ts None respects hashed tt keeps)
