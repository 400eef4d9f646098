-- What contracts see of a reader of fields.
use Rattle.std.specs.Prelude.{ℕ, List}
use Rattle.mokabox_syntax.specs.Fields.{fields_in}
use Rattle.mokabox_syntax.specs.declared.fields.Fields.{Fields}

-- The fields that are not read yet.
abbrev pub fields_left : Fields → List (List ℕ)
fields_left fields = fields_in fields.rest
