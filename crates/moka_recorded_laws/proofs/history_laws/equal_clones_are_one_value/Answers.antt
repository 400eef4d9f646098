use Rattle.moka_recorded_laws.proofs.Histories.{same}
use Rattle.moka_recorded_laws.proofs.history_laws.equal_clones_are_one_value.Goals as goal

pub returns : goal.returns
returns g c equal v w alike = same g.V.Clone.is_clone equal v w alike
