use Rattle.std.proofs.Common.{refl, ◌∙◌}
use Rattle.mokabox_syntax.proofs.NumberLaws.{padded_none, parsed_number}
use Rattle.mokabox_syntax.proofs.Truth.{untrue}
use Rattle.mokabox_syntax.proofs.fields.number.Goals as goal

pub returns-then-is_padded : goal.returns-then-is_padded
returns-then-is_padded c = padded_none _ ((c.if-is_padded.ensures).0 refl)

pub returns : goal.returns
returns c = c.ok.ensures.value ∙ parsed_number _ c.parse.result c.parse.ensures.value.0 (λ padded. untrue (c.if-is_padded.ensures.1 padded))
