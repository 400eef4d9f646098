use Rattle.std.proofs.Common.{ap, ◌∙◌, arith}
use Rattle.moka_recording.proofs.Moves.{announces, gives}
use Rattle.moka_recording.proofs.recorded.announce.Goals as goal

pub load-requires : goal.load-requires
load-requires g c =
    let w = c.requires.words in
    (c.requires.table, omega arith, announces c.args.history.now.shared.table_id.slots _ 0 _ _ _ (ap (λ m. m.0.is_recorder) c.requires.token) (ap (λ m. m.0.built) c.requires.token))

pub split_seat-requires : goal.split_seat-requires
split_seat-requires g c =
    let w = c.requires.words in
    (c.load.ensures.0 ∙ c.requires.table, omega arith, gives _ _)
