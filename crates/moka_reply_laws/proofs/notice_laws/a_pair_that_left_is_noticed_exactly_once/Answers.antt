use Rattle.moka_reply_laws.proofs.Notices.{once-made, none-made, in-order}
use Rattle.moka_reply_laws.proofs.notice_laws.a_pair_that_left_is_noticed_exactly_once.Goals as goal

pub returns-clause-once : goal.returns-clause-once
returns-clause-once g c settings made are test passes = once-made g.K.PartialEq.eq settings g.met.K.Eq.laws made are test passes

pub returns-clause-stored : goal.returns-clause-stored
returns-clause-stored g c settings made are test passes = none-made g.K.PartialEq.eq settings g.met.K.Eq.laws made are test 1 passes

pub returns-clause-unwritten : goal.returns-clause-unwritten
returns-clause-unwritten g c settings made are test passes = none-made g.K.PartialEq.eq settings g.met.K.Eq.laws made are test 0 passes

pub returns-clause-in_order : goal.returns-clause-in_order
returns-clause-in_order g c settings made are = in-order g.K.PartialEq.eq settings g.met.K.Eq.laws made are
