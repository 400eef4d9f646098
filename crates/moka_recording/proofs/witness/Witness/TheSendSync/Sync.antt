-- What a token owns may go to any thread, and nothing changes through a shared reference to it. So threads may share it.
use denote.RattleType.{RattleType}
use denote.Param.Send.{IsSend, IsSync, part_keyless}
use Rattle.moka_recording.specs.contracts.witness.Witness.{the_row}
use Rattle.moka_recording.proofs.witness.Witness.TheSendSync.Send.{send}

pub sync : (S R B : RattleType) → IsSend S → IsSend R → IsSync (the_row S R B)
sync S R B s r = record { shared = λ d b o κ q. part_keyless (the_row S R B) (send S R B s r) q d b o }
