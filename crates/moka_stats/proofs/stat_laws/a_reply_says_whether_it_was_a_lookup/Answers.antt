use Rattle.moka_stats.proofs.Lookups.{says_lookup}
use Rattle.moka_stats.proofs.stat_laws.a_reply_says_whether_it_was_a_lookup.Goals as goal

pub returns : goal.returns
returns g c settings steps call it is = says_lookup g.K.PartialEq.eq settings steps call it is
