use Rattle.std.proofs.Common.{[], ◌∷◌}
use Rattle.moka_recording.proofs.Moves.{begins}
use Rattle.moka_recording.proofs.opened.Opened.new.Goals as goal

pub of_words-requires : goal.of_words-requires
of_words-requires g c = begins (0 ∷ []) []
