use Rattle.moka_stats.proofs.Lookups.{all_lookups}
use Rattle.moka_stats.proofs.stat_laws.hits_and_misses_are_the_recorded_lookups.Goals as goal

pub returns : goal.returns
returns g c settings run steps is = all_lookups g.K.PartialEq.eq settings run steps is
