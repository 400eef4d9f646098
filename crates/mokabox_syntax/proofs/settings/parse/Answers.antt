use Rattle.std.proofs.Common.{◌∙◌, ap}
use Rattle.mokabox_syntax.proofs.FieldTexts.{utf8_says, other_says}
use Rattle.mokabox_syntax.proofs.SettingLaws.{first_again, first_found}
use Rattle.mokabox_syntax.specs.Fields.{fields_of}
use Rattle.mokabox_syntax.specs.Settings.{settings_of, settings_by}
use Rattle.mokabox_syntax.proofs.settings.parse.Goals as goal

pub returns-in-Ok-clause-exact : goal.returns-in-Ok-clause-exact
returns-in-Ok-clause-exact c =
    let same = c.in-Ok.ensures.cases.0 in
    c.read.ensures ∙ ap settings_of (c.of.ensures ∙ ap fields_of same) ∙ utf8_says settings_of c.args.line.now c.in-Ok.ensures.cases.1

pub returns-in-Ok-clause-found : goal.returns-in-Ok-clause-found
returns-in-Ok-clause-found c = first_found _ c.read.result (returns-in-Ok-clause-exact c)

pub returns-in-Ok-clause-only : goal.returns-in-Ok-clause-only
returns-in-Ok-clause-only c = λ given givable e. returns-in-Ok-clause-exact c ∙ ap settings_by e ∙ first_again given givable

pub returns-in-Err-clause-exact : goal.returns-in-Err-clause-exact
returns-in-Err-clause-exact c = other_says settings_of c.args.line.now c.in-Err.ensures.cases.0

pub returns-in-Err-clause-only : goal.returns-in-Err-clause-only
returns-in-Err-clause-only c = λ given givable e. returns-in-Err-clause-exact c ∙ ap settings_by e ∙ first_again given givable
