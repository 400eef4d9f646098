use Rattle.std.proofs.Common.{◌≡◌}
use Rattle.mokabox_syntax.specs.FieldsLeft.{fields_left}
use Rattle.mokabox_syntax.specs.Settings.{none_given, settings_from}
use Rattle.mokabox_syntax.proofs.settings.read.Given as goal

abbrev pub invariant-loop-field : goal.invariant-loop-field
invariant-loop-field l = settings_from l.settings (fields_left l.field-iterator) ≡ settings_from none_given (fields_left l.initial.field-iterator)
