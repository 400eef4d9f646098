-- A held box may go to another thread if its value may.
use denote.Struct.Struct.{exits_of}
use denote.Struct.Owning.{shape, fields, to}
use denote.Param.Send.{IsSend, AllSend, owning_send, struct_send, sendable}
use Rattle.std.proofs.alloc.Global.TheSendSync as handle
use Rattle.moka_c.specs.contracts.byte_strings.ByteStrings as Home
use Rattle.moka_c.proofs.byte_strings.ByteStrings.TheSendSync.{the_send as home}
use Rattle.moka_c.specs.contracts.held_strings.HeldStrings.{the_row, the_type}
use Rattle.moka_c.proofs.Sending.{quiet, kept}

pub send : IsSend the_row
send =
    let all : AllSend (fields the_type) = (search sendable, (handle.the_field_send, tt)) in
    owning_send the_type all (λ d. kept Home.the_row home d.alloc d.at d.held)
    (λ k. quiet (to the_type) (exits_of k (fields the_type)) ((struct_send (shape the_type) all).leaving k))
