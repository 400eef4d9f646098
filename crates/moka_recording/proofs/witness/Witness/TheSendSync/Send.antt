-- A witness owns its token alone, which may go to any thread.
use denote.Builtin.{u64}
use denote.RattleType.{RattleType}
use denote.Param.Send.{IsSend, sendable}
use denote.Struct.Tuple.{Tuple}
use Rattle.std.proofs.Common.{[], ◌∷◌}
use Rattle.atomic_table.proofs.Sent.{seat_keyless}
use Rattle.moka_recording.specs.contracts.law.View as view
use Rattle.moka_recording.specs.contracts.witness.Witness.{the_row}

pub send : (S R B : RattleType) → IsSend S → IsSend R → IsSend (the_row S R B)
send S R B s r =
    let entry : IsSend (Tuple (u64 ∷ S ∷ R ∷ [])) = search sendable depth 20 in
    record {
      owned = λ d vs. ((λ vss. (tt, (((λ uss. (tt, ((λ wss. (tt, tt)), tt))), seat_keyless (Tuple (u64 ∷ S ∷ R ∷ [])) entry (view.the_row S R B).coded.code d.token.table_id d.token.id d.token.me), tt))), tt);
      leaving = λ k d w. (tt, tt);
    }
