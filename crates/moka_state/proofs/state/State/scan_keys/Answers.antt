use Rattle.std.proofs.Common.{◌∙◌}
use Rattle.moka_state.proofs.Scans.{all-keys}
use Rattle.moka_state.proofs.state.State.scan_keys.Goals as goal

pub returns-in-Ok-clause-keys : goal.returns-in-Ok-clause-keys
returns-in-Ok-clause-keys g c = rw (← c.self.view_is) (c.in-Ok.ensures.keys ∙ all-keys c.self.inside.table)
