use Rattle.std.proofs.Common.{Some, None}
use Rattle.moka_model.specs.Calls.{Found}
use Rattle.moka_reply_laws.proofs.Copies.{exactly}
use Rattle.moka_reply_laws.proofs.reply_laws.a_found_value_is_cloned.Goals as goal

pub returns-clause-found : goal.returns-clause-found
returns-clause-found g c v given = exactly g.V.Clone.is_clone (Found (Some v)) given

pub returns-clause-none : goal.returns-clause-none
returns-clause-none g c given = exactly g.V.Clone.is_clone (Found None) given
