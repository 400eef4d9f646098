use Rattle.moka_recorded.specs.StepForm.{NoTurnOrNumbers}
use Rattle.moka_recorded.proofs.Forms.{nothing_else}
use Rattle.moka_recorded.proofs.get_with.finish.Goals as goal

pub unreachable-requires : goal.unreachable-requires
unreachable-requires g c = nothing_else NoTurnOrNumbers c.in-Ok-call.receipt.reply c.in-Ok-call.ensures.fits.0 c.in_default-reply.not-Entered c.in_default-reply.not-Refused
