use Rattle.moka_stats.proofs.Lookups.{hits_counted, misses_counted}
use Rattle.moka_stats.proofs.stat_laws.counts_are_exact.Goals as goal

pub returns-clause-hits : goal.returns-clause-hits
returns-clause-hits g c run = hits_counted run

pub returns-clause-misses : goal.returns-clause-misses
returns-clause-misses g c run = misses_counted run
