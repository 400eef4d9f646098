use Rattle.moka_reply_laws.proofs.Notices.{conserved-once}
use Rattle.moka_reply_laws.proofs.notice_laws.what_is_conserved_is_noticed_exactly_once.Goals as goal

pub returns : goal.returns
returns g c settings h books given test conserved alike written stored = conserved-once g.K.PartialEq.eq settings h books given test conserved alike written stored
