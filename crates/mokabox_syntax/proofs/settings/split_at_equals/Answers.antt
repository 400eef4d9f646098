use Rattle.mokabox_syntax.proofs.SettingLaws.{split_halves}
use Rattle.mokabox_syntax.proofs.settings.split_at_equals.Goals as goal

pub returns : goal.returns
returns c = split_halves c.args.field.now c.split_once.result c.split_once.ensures.cases
