use Rattle.std.proofs.Common.{Some, unwrap_or, ◌∙◌, ap}
use Rattle.mokabox_syntax.proofs.FieldTexts.{utf8_says, other_says}
use Rattle.mokabox_syntax.specs.BadLine.{first_reason_of_fields}
use Rattle.mokabox_syntax.specs.Fields.{fields_of}
use Rattle.mokabox_syntax.specs.declared.bad_line.Reason.TheVariants.{NotUtf8}
use Rattle.mokabox_syntax.proofs.bad_line.first_reason_of.Goals as goal

pub returns-in-Ok : goal.returns-in-Ok
returns-in-Ok c =
    let same = c.in-Ok.ensures.cases.0 in
    let said = ap Some (c.first_reason_of_fields.ensures ∙ ap (λ line. first_reason_of_fields (fields_of line)) same) in
    ap (λ reason. unwrap_or reason NotUtf8) (said ∙ utf8_says (λ fields. Some (first_reason_of_fields fields)) c.args.line.now c.in-Ok.ensures.cases.1)

pub returns-in-Err : goal.returns-in-Err
returns-in-Err c = ap (λ reason. unwrap_or reason NotUtf8) (other_says (λ fields. Some (first_reason_of_fields fields)) c.args.line.now c.in-Err.ensures.cases.0)
