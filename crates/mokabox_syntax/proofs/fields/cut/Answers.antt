use Rattle.std.proofs.Common.{Some, None}
use Rattle.mokabox_syntax.proofs.FieldLaws.{cut_fields}
use Rattle.mokabox_syntax.proofs.fields.cut.Goals as goal

pub returns-in-Some : goal.returns-in-Some
returns-in-Some c = cut_fields _ (Some (c.in-Some.field, c.in-Some.rest)) c.in-Some.ensures.cases

pub returns-in-None : goal.returns-in-None
returns-in-None c = cut_fields _ None c.in-None.ensures.cases
