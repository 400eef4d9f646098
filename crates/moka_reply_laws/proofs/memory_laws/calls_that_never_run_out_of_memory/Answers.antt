use Rattle.moka_reply_laws.proofs.Memory.{free}
use Rattle.moka_reply_laws.proofs.memory_laws.calls_that_never_run_out_of_memory.Goals as goal

pub returns : goal.returns
returns g c settings steps call is may = free g.K.PartialEq.eq g.V.Clone.is_clone g.V.Clone.is_infallible settings steps call is may
