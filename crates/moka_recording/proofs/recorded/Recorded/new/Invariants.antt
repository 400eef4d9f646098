use Rattle.std.proofs.Common.{Some}
use Rattle.moka_recording.proofs.recorded.Recorded.new.Given as goal

-- the announcement is what the machine was built with
abbrev pub ghosts-announce : goal.ghosts-announce
ghosts-announce g a = record { built = Some (g.M.Machine.built_with a.machine.now) }
