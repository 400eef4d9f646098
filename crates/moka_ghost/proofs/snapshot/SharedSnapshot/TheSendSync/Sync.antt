-- Any thread may share a snapshot.
use denote.RattleType.{RattleType}
use denote.Param.Send.{IsSync, part_keyless}
use Rattle.moka_ghost.specs.contracts.snapshot.SharedSnapshot.{the_row}
use Rattle.moka_ghost.proofs.snapshot.SharedSnapshot.TheSendSync.Send.{send}

pub sync : (T : RattleType) → IsSync (the_row T)
sync T = record { shared = λ d b o κ q. part_keyless (the_row T) (send T) q d b o }
