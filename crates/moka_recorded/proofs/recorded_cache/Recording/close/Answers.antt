use Rattle.moka_recorded.specs.declared.refused.CloseRefused.TheVariants.{PassesMissing}
use Rattle.moka_recorded.proofs.recorded_cache.Recording.close.Goals as goal

pub returns-in-Ok-clause-whole : goal.returns-in-Ok-clause-whole
returns-in-Ok-clause-whole g c = rw (← c.self.view_is) c.in-Ok.ensures.whole

pub returns-in-Err-clause-missing : goal.returns-in-Err-clause-missing
returns-in-Err-clause-missing g c =
    let back = c.in-Err.ensures.missing in
    rw (← c.self.view_is) ((λ i. PassesMissing (back.0 i) (back.1 i)), back.2)
