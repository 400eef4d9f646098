use Rattle.std.proofs.Common.{[]}
use Rattle.moka_value_invariant.proofs.Callers.{kept-opening}
use Rattle.moka_recorded.proofs.recorded_state.RecordedStateOverStateStepReply.over.Goals as goal

pub returns-clause-stands : goal.returns-clause-stands
returns-clause-stands g c = (([], tt, tt, tt, c.requires), kept-opening g.C.CacheTypes.keeps g.K.PartialEq.eq g.V.Clone.is_clone _ _ c.requires)
