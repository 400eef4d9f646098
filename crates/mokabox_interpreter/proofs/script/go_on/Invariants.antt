use Rattle.std.specs.Io.Iter.{split_byte, split_known_bytes}
use Rattle.mokabox_interpreter.proofs.LineLaws.{IsRunning}
use Rattle.mokabox_interpreter.proofs.script.go_on.Given as goal

abbrev pub invariant-loop-line : goal.invariant-loop-line
invariant-loop-line g l = IsRunning
    (split_known_bytes g.R.Read.remaining l.initial.line-iterator) (split_known_bytes g.R.Read.remaining l.line-iterator)
    l.initial.session.cache l.initial.session.moment l.session.cache l.session.moment l.is_bad (split_byte l.line-iterator)
    (g.W.Write.contents l.initial.writer) (g.W.Write.contents l.writer)
