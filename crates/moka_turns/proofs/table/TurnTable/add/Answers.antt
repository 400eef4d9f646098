use Rattle.moka_turns.proofs.Abandons.{by_kinds}
use Rattle.moka_turns.proofs.Opens.{add-keeps}
use Rattle.moka_turns.proofs.table.TurnTable.add.Goals as goal

pub returns-clause-represents : goal.returns-clause-represents
returns-clause-represents g c none_waits hash_of ts kept respects hashed copy keeps =
    add-keeps g.K.PartialEq.eq g.met.K.Eq.laws g.V.Clone.is_clone hash_of respects ts _ _ _ keeps c.args.key hashed c.requires.absent c.args.turn kept copy none_waits
    (λ p. by_kinds g.K.PartialEq.eq c.args.key p _ _ _ (c.in-Ok.ensures.updates.0 p))
