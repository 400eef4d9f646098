use Rattle.std.proofs.Common.{refl}
use Rattle.moka_turns.proofs.table.TurnTable.open_shown.Goals as goal

pub returns-clause-opens : goal.returns-clause-opens
returns-clause-opens g c hash_of ts value respects hashed copied keeps =
    let reserved = rw (← c.in-Ok.ensures.same.0, ← c.in-Ok.ensures.same.1) at keeps in
    c.add.ensures.represents refl hash_of ts value respects hashed copied reserved
