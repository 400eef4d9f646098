use Rattle.moka_laws.proofs.Deadlines.{is_live-exactly}
use Rattle.moka_laws.proofs.Places.{answer_last_write, reply-nothing}
use Rattle.moka_laws.proofs.laws.looks_answer_the_last_write.Goals as goal

pub returns-clause-found : goal.returns-clause-found
returns-clause-found g c settings steps k at last = answer_last_write g.K.PartialEq.eq settings k steps at last

pub returns-clause-live : goal.returns-clause-live
returns-clause-live g c settings w at = is_live-exactly settings w at

pub returns-clause-nothing : goal.returns-clause-nothing
returns-clause-nothing g c settings steps k at none = reply-nothing g.K.PartialEq.eq settings k steps at none
