use Rattle.moka_policy.proofs.Callers.{number_hash-le_bytes}
use Rattle.moka_laws.proofs.laws.a_number_hashes_to_itself.Goals as goal

pub returns : goal.returns
returns c = number_hash-le_bytes
