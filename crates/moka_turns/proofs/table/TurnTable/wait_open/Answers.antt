use Rattle.std.proofs.Common.{refl, true}
use Rattle.moka_turns.proofs.Begins.{waits}
use Rattle.moka_turns.proofs.Changes.{if-there}
use Rattle.moka_turns.proofs.table.TurnTable.wait_open.Goals as goal

pub returns-in-Some-clause-begins : goal.returns-in-Some-clause-begins
returns-in-Some-clause-begins g c number hash_of ts respects hashed sound keeps =
    let row = if-there _ _ c.requires c.in-Some.ensures.number in
    waits g.K.PartialEq.eq g.met.K.Eq.laws g.V.Clone.is_clone hash_of respects ts sound _ _ keeps c.args.key hashed _ _ number true row.0 row.1 c.in-Some.number row.2 refl
    (c.in-Some.ensures.represents hash_of ts respects hashed sound keeps)
