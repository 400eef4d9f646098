use Rattle.moka_laws.proofs.Sketches.{estimate_after-raised, estimate_after-halved, estimate_after-not_lowered}
use Rattle.moka_laws.proofs.sketch_laws.a_note_raises_an_estimate.Goals as goal

pub returns-clause-raised : goal.returns-clause-raised
returns-clause-raised g c notes hash not_due = estimate_after-raised g.row.BITS hash notes not_due

pub returns-clause-not_lowered : goal.returns-clause-not_lowered
returns-clause-not_lowered g c notes note hash not_due = estimate_after-not_lowered g.row.BITS hash note notes not_due

pub returns-clause-raised_and_halved : goal.returns-clause-raised_and_halved
returns-clause-raised_and_halved g c notes hash due = estimate_after-halved g.row.BITS hash notes due
