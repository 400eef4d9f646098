use Rattle.moka_model.proofs.Callers.{legal-fit}
use Rattle.moka_laws.proofs.Begins.{computes_at_once}
use Rattle.moka_laws.proofs.turn_laws.a_compute_in_one_go_is_answered_by_what_is_live.Goals as goal

pub returns : goal.returns
returns g c settings steps legal = computes_at_once g.K.PartialEq.eq settings g.met.K.Eq.laws steps (legal-fit g.K.PartialEq.eq settings steps legal)
