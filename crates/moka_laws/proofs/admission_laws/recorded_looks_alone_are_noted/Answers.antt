use Rattle.std.proofs.Common.{ap}
use Rattle.moka_laws.proofs.Noted.{notes-all, notes-more, notes-none}
use Rattle.moka_laws.proofs.admission_laws.recorded_looks_alone_are_noted.Goals as goal

pub returns-clause-hashes : goal.returns-clause-hashes
returns-clause-hashes g c settings h = notes-all settings h

pub returns-clause-more : goal.returns-clause-more
returns-clause-more g c settings later h = notes-more settings later h

pub returns-clause-nothing_else : goal.returns-clause-nothing_else
returns-clause-nothing_else g c settings h e hash none = ap (λ ns. settings.frequency ns hash) (notes-none settings e h none)
