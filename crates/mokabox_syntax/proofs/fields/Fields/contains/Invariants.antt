use Rattle.std.proofs.Common.{◌≡◌}
use Rattle.mokabox_syntax.specs.Fields.{is_one_of}
use Rattle.mokabox_syntax.specs.FieldsLeft.{fields_left}
use Rattle.mokabox_syntax.proofs.fields.Fields.contains.Given as goal

abbrev pub invariant-loop-field : goal.invariant-loop-field
invariant-loop-field l = is_one_of l.text (fields_left l.field-iterator) ≡ is_one_of l.text (fields_left l.initial.field-iterator)
