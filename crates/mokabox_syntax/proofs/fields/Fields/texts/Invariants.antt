use Rattle.std.proofs.Common.{◌≡◌}
use Rattle.mokabox_syntax.specs.Fields.{none_empty}
use Rattle.mokabox_syntax.specs.FieldsLeft.{fields_left}
use Rattle.mokabox_syntax.proofs.fields.Fields.texts.Given as goal

abbrev pub invariant-loop-part : goal.invariant-loop-part
invariant-loop-part l = none_empty (fields_left l.part-iterator) ≡ none_empty (fields_left l.initial.part-iterator)
