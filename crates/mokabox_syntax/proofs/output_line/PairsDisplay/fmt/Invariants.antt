use Rattle.std.proofs.Common.{take}
use Rattle.std.specs.Fmt.{HasWritten, IsPlainFormatter}
use Rattle.mokabox_syntax.specs.OutputLine.{pairs_text}
use Rattle.mokabox_syntax.proofs.output_line.PairsDisplay.fmt.Given as goal

-- the pairs so far are written
abbrev pub invariant-loop-pair : goal.invariant-loop-pair
invariant-loop-pair g l = IsPlainFormatter l.fn.f → HasWritten g.W.Write.write_str_gives l.fn.f (pairs_text (take l.pair-index l.self.0.items)) l.f
