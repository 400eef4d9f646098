use Rattle.std.proofs.Common.{◌∙◌, sym, arith}
use Rattle.moka_recording.proofs.Moves.{gives}
use Rattle.moka_recording.proofs.recorded.create_passes.Goals as goal

pub split_seat-theirs-requires : goal.split_seat-theirs-requires
split_seat-theirs-requires g c =
    let w = c.requires.words in
    (c.loop-number.invariant.2 ∙ sym c.requires.table, omega arith, gives _ _)
