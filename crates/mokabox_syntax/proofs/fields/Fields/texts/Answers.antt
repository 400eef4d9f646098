use Rattle.std.proofs.Common.{◌≡◌, true, Some, rules}
use Rattle.mokabox_syntax.specs.Fields.{fields_of, none_empty}
use Rattle.mokabox_syntax.proofs.FieldLaws.{texts_whole}
use Rattle.mokabox_syntax.proofs.fields.Fields.texts.Goals as goal

pub returns : goal.returns
returns c =
    let rest : c.args.self.rest ≡ Some c.in_ok-texts.texts = search rules in
    let none : none_empty (fields_of c.in_ok-texts.texts.now) ≡ true = search rules in
    rw rest (texts_whole c.in_ok-texts.texts.now none)
